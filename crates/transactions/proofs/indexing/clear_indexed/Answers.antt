use Rattle.transactions.proofs.Lemmas.{asks_then, rules, state, ⊤}
use Rattle.transactions.proofs.Committing.{asks_changed}
use Rattle.transactions.proofs.IndexRests.{clear_kept, cleared_clean, refused_of, remaining_indexed, remaining_rows, removed_indexed, rows_left}
use Rattle.transactions.proofs.Redeclared.{unwritten_as}
use Rattle.transactions.specs.Indexing.{IsSoundIndexed, of_index_fault}
use Rattle.index.specs.Calls as index
use Rattle.index.specs.Meaning.{declares_in, sees_in}
use Rattle.transactions.proofs.indexing.clear_indexed.Goals as goal

pub returns-clause-ok : goal.returns-clause-ok
returns-clause-ok g c clean was =
    let old = (state g.S.Store c.args.tx.now.conn.now).now in
    let mid = (state g.S.Store c.clear_database.new.tx.conn.now).now in
    let new = (state g.S.Store c.drop_db.new.tx.conn.now).now in
    let db = c.args.number.now in
    let k = c.in_ok-clear_database.ensures in
    let d = c.in_ok-drop_db.ensures in
    let rest = rows_left g.S.Store c.args.number.now c.args.tx.now.conn.now c.clear_database.new.tx.conn.now c.drop_db.new.tx.conn.now d.asks k.ok clean was.store in
    let dropped = d.drops clean rest.schema_is (declares_in old.trees) (sees_in old.trees) (remaining_indexed db old mid rest was.indexed) in
    record { cleared = mid; clears = k.ok (cleared_clean g.S.Store c.args.number.now c.args.tx.now.conn.now c.clear_database.new.tx.conn.now c.drop_db.new.tx.conn.now d.asks k.ok clean) was.store; only = dropped.only; indexed = removed_indexed db old mid new rest dropped }

pub returns-clause-inside : goal.returns-clause-inside
returns-clause-inside g c clean was =
    let k = c.in_ok-clear_database.ensures in
    let d = c.in_ok-drop_db.ensures in
    let inside = k.inside (cleared_clean g.S.Store c.args.number.now c.args.tx.now.conn.now c.clear_database.new.tx.conn.now c.drop_db.new.tx.conn.now d.asks k.ok clean) in
    d.goes_on (rows_left g.S.Store c.args.number.now c.args.tx.now.conn.now c.clear_database.new.tx.conn.now c.drop_db.new.tx.conn.now d.asks k.ok clean was.store).schema_is clean inside.is_open inside.inside

pub returns-clause-kept : goal.returns-clause-kept
returns-clause-kept g c clean was =
    let k = c.in_ok-clear_database.ensures in
    let d = c.in_ok-drop_db.ensures in
    clear_kept g.S.Store c.args.number.now c.args.tx.now.conn.now c.clear_database.new.tx.conn.now c.drop_db.new.tx.conn.now d.asks k.ok k.proceeds d.looks clean was.store

pub returns-clause-asks : goal.returns-clause-asks
returns-clause-asks g c =
    let old = state g.S.Store c.args.tx.now.conn.now in
    let mid = state g.S.Store c.clear_database.new.tx.conn.now in
    asks_then old mid (state g.S.Store c.drop_db.new.tx.conn.now) (asks_changed old mid c.in_ok-clear_database.ensures.proceeds) c.in_ok-drop_db.ensures.asks

pub returns-in_err-clear_database-clause-asks : goal.returns-in_err-clear_database-clause-asks
returns-in_err-clear_database-clause-asks g c = asks_changed (state g.S.Store c.args.tx.now.conn.now) (state g.S.Store c.clear_database.new.tx.conn.now) c.in_err-clear_database.ensures.proceeds

pub returns-in_err-drop_db-clause-asks : goal.returns-in_err-drop_db-clause-asks
returns-in_err-drop_db-clause-asks g c =
    let old = state g.S.Store c.args.tx.now.conn.now in
    let mid = state g.S.Store c.clear_database.new.tx.conn.now in
    asks_then old mid (state g.S.Store c.drop_db.new.tx.conn.now) (asks_changed old mid c.in_ok-clear_database.ensures.proceeds) c.in_err-drop_db.ensures.asks

pub returns-in_err-drop_db-clause-kept : goal.returns-in_err-drop_db-clause-kept
returns-in_err-drop_db-clause-kept g c clean was =
    let k = c.in_ok-clear_database.ensures in
    let d = c.in_err-drop_db.ensures in
    clear_kept g.S.Store c.args.number.now c.args.tx.now.conn.now c.clear_database.new.tx.conn.now c.drop_db.new.tx.conn.now d.asks k.ok k.proceeds d.looks clean was.store

pub returns-in_err-drop_db-clause-err : goal.returns-in_err-drop_db-clause-err
returns-in_err-drop_db-clause-err g c =
    let first = c.args.tx.now.conn.now in
    let between = c.clear_database.new.tx.conn.now in
    let last = c.drop_db.new.tx.conn.now in
    let k = c.in_ok-clear_database.ensures in
    let d = c.in_err-drop_db.ensures in
    let fault = c.in_err-drop_db.field-0.0 in
    let Given : Type 0 = IsSoundIndexed g.S.Store (λ _. ⊤) first last in
    unwritten_as Given c.from_residual-in_err-drop_db.result (of_index_fault fault) (search rules)
    (refused_of (index.IsSound g.S.Store between last) Given fault
    (λ it. (
      it.0,
      λ up.
          let was = (it.1 ((k.proceeds.kept (cleared_clean g.S.Store c.args.number.now c.args.tx.now.conn.now c.clear_database.new.tx.conn.now c.drop_db.new.tx.conn.now d.asks k.ok it.0)).was_open up)).0 in
          remaining_rows c.args.number.now (state g.S.Store first).now (state g.S.Store between).now (rows_left g.S.Store c.args.number.now c.args.tx.now.conn.now c.clear_database.new.tx.conn.now c.drop_db.new.tx.conn.now d.asks k.ok it.0 was.store) was.indexed,
    )) d.err)
