use Rattle.transactions.proofs.Lemmas.{HasBest, HasCleanDisk, IsHeldOpen, IsSound, addition_of, additions, arith, asks_changed, asks_then, best_in_turn, history_with, keeps_then, none_held, rules, state, stored_further, subst, to_z-of_z, unwritten_of, take_all, w64, ◌∙◌}
use Rattle.transactions.proofs.Common.{[], length-map}
use Rattle.tables.proofs.Tables.{databases_laid}
use Rattle.transactions.proofs.OtherRows.{others_moved, others_placed}
use Rattle.transactions.proofs.Ahead.{last_ahead, next_ahead, place_ahead, start_ahead, still_store}
use Rattle.transactions.proofs.AllWrites.{Given, all_failed}
use Rattle.transactions.specs.Indexing.{AreAllIndexes}
use Rattle.transactions.specs.inner.Histories.{AreHeld}
use Rattle.transactions.specs.inner.Placed.{IsAhead, with_databases}
use Rattle.transactions.proofs.commits.write_with_one_sequence_update.Goals as goal

pub loop-i-init : goal.loop-i-init
loop-i-init g c =
    let old = state g.S.Store c.args.tx.now.conn.now in
    let new = state g.S.Store c.advance_database.new.tx.conn.now in
    let e = c.in_ok-advance_database.ensures.alters in
    record {
      same = c.in_ok-advance_database.ensures.same_reference;
      asks = asks_changed old new e.proceeds;
      held = λ clean. none_held _ c.new-histories.result c.new-histories.ensures.empty;
      so_far = λ name clean was every plain due. (
        start_ahead c.args.writes.now name c.args.db.now c.args.sequence _ old.now new.now was every (to_z-of_z {w = w64} {z = c.integer_of.result} (record { sfits = c.integer_of.type_inv }) ∙ c.integer_of.ensures) due
            (e.ok clean was.store.schema_is (databases_laid old.now.trees was.store.laid)),
        e.proceeds.kept clean,
        none_held _ c.new-histories.result c.new-histories.ensures.empty,
        (λ up. (e.inside clean).is_open),
        (λ within. (e.inside clean).inside),
        others_moved c.args.db.now _ old.now new.now (e.ok clean was.store.schema_is (databases_laid old.now.trees was.store.laid)),
      );
    }

pub loop-i-preserved : goal.loop-i-preserved
loop-i-preserved g c =
    let inv = c.loop-i.invariant in
    let old = state g.S.Store c.args.tx.now.conn.now in
    let mid = state g.S.Store c.loop-i.tx.conn.now in
    let new = state g.S.Store c.write_by_cached_history.new.tx.conn.now in
    let e = c.in_ok-write_by_cached_history.ensures in
    let ws = c.args.writes.now in
    let i = c.loop-i.i in
    let w = c.index-writes-i.result in
    let db = c.args.db.now in
    record {
      same = e.same_reference ∙ inv.same;
      asks = asks_then old mid new inv.asks e.writes.asks;
      held = λ clean id h is.
          let mid-clean : HasCleanDisk mid = omega (arith, e.writes.asks.survives.clean, clean) in
          inv.asks.was_open mid-clean (e.writes.asks.was_open clean (e.writes.inside clean).0);
      so_far = λ name clean was every plain due.
          let mid-clean : HasCleanDisk mid = omega (arith, e.writes.asks.survives.clean, clean) in
          let before = inv.so_far name mid-clean was every plain due in
          let at = to_z-of_z {w = w64} {z = c.integer_of-next.result} (record { sfits = c.integer_of-next.type_inv }) ∙ c.integer_of-next.ensures in
          let store = still_store ws i name db c.args.sequence old.now mid.now c.loop-i-test.true c.requires.room due before.0 in
          let place = place_ahead ws i w name db c.args.sequence _ old.now mid.now c.loop-i-test.true c.index-writes-i.is c.requires.room at due before.0 in
          let write = e.ok clean store before.2 place in
          let done = next_ahead ws i w name db c.args.sequence _ old.now mid.now new.now c.loop-i-test.true c.index-writes-i.is c.requires.room at plain due before.0 e.writes.lawful write in (
            done,
            keeps_then old mid new before.1 ((e.writes.looks store.schema_is).kept clean),
            stored_further ws i w name db due.row old.now (with_databases before.0.back mid.now) (with_databases done.back new.now) c.loop-i.histories c.write_by_cached_history.new.histories c.loop-i-test.true c.index-writes-i.is due.numbered
                before.0.written done.written before.2 (e.writes.after clean store before.2),
            (λ up. (e.writes.inside clean).0),
            (λ within. (e.writes.inside clean).1),
            others_placed db _ _ mid.now new.now store.schema_is write ∙ before.5,
          );
    }

pub returns-in_err-write_by_cached_history-clause-writes : goal.returns-in_err-write_by_cached_history-clause-writes
returns-in_err-write_by_cached_history-clause-writes g c plain =
    let inv = c.loop-i.invariant in
    let first = c.args.tx.now.conn.now in
    let last = c.loop-i.tx.conn.now in
    let now = c.write_by_cached_history.new.tx.conn.now in
    let old = state g.S.Store first in
    let mid = state g.S.Store last in
    let new = state g.S.Store now in
    let e = c.in_err-write_by_cached_history.ensures.writes in
    let fault = c.in_err-write_by_cached_history.field-0.0 in
    let ws = c.args.writes.now in
    let i = c.loop-i.i in
    let w = c.index-writes-i.result in
    let a = addition_of w in
    let db = c.args.db.now in
    all_failed g.S.Store (additions ws) db c.args.sequence (AreAllIndexes [] db) (λ (u : Unit {0}). AreAllIndexes [] db) first now fault c.from_residual-in_err-write_by_cached_history.result (search rules)
    (asks_then old mid new inv.asks e.asks)
    (λ name clean was every due.
    let mid-clean : HasCleanDisk mid = omega (arith, e.asks.survives.clean, clean) in
    let before = inv.so_far name mid-clean was every plain due in
    let store = still_store ws i name db c.args.sequence old.now mid.now c.loop-i-test.true c.requires.room due before.0 in
    keeps_then old mid new before.1 ((e.looks store.schema_is).kept clean))
    (λ name.
    unwritten_of (IsHeldOpen c.loop-i.histories mid × IsSound g.S.Store (λ trees. AreHeld c.loop-i.histories db trees × HasBest (history_with trees db a)) last now)
    (Given g.S.Store (additions ws) db c.args.sequence name (AreAllIndexes [] db) first now) fault
    (λ it.
    let mid-clean : HasCleanDisk mid = omega (arith, e.asks.survives.clean, it.0) in (
      (λ id h is.
          let up = inv.held mid-clean id h is in
          let had = it.1 up in
          (inv.so_far name mid-clean had.0 had.1.0 plain had.1.1).3 up),
      (
        it.0,
        λ up.
            let had = it.1 (inv.asks.was_open mid-clean up) in
            let far = inv.so_far name mid-clean had.0 had.1.0 plain had.1.1 in (
              still_store ws i name db c.args.sequence old.now mid.now c.loop-i-test.true c.requires.room had.1.1 far.0,
              (far.2, best_in_turn ws i w name db c.args.sequence old.now (with_databases far.0.back mid.now) c.loop-i-test.true c.index-writes-i.is had.1.1 far.0.written),
            ),
      ),
    )) e.err)

pub returns-clause-writes : goal.returns-clause-writes
returns-clause-writes g c plain =
    let inv = c.loop-i.invariant in
    let old = state g.S.Store c.args.tx.now.conn.now in
    let new = state g.S.Store c.loop-i.tx.conn.now in
    let ws = c.args.writes.now in
    record {
      done = λ name clean was every due.
          let far = inv.so_far name clean was every plain due in
          let done = subst (λ xs. IsAhead (additions ws) (additions xs) name due.row old.now new.now) (take_all c.loop-i.i ws (omega (arith, c.loop-i-test.false))) far.0 in
          record {
            ok = (
              last_ahead (additions ws) name due.row old.now new.now (omega (arith, c.requires.some, length-map ws addition_of)) done,
              done.indexed,
              subst (λ n. AreAllIndexes [] n new.now.trees) due.numbered done.none,
            );
            others = far.5;
            kept = far.1;
            inside = far.4;
          };
      err = λ name. tt;
      asks = inv.asks;
    }
