use Rattle.transactions.proofs.Lemmas.{HasCleanDisk, addition_of, arith, asks_changed, asks_then, proceeds_then, history_in_rows, revs_tree, state, subst, sym}
use Rattle.transactions.proofs.DocumentWriting.{dbs_fit, moved_write, schema_placed}
use Rattle.transactions.specs.inner.Following.{HasPlaceFor}
use Rattle.transactions.proofs.commits.write_and_advance.Goals as goal

pub returns-clause-ok : goal.returns-clause-ok
returns-clause-ok g c r clean store stored place numbered at =
    let old = state g.S.Store c.args.tx.now.conn.now in
    let mid = state g.S.Store c.write_by_cached_history.new.tx.conn.now in
    let new = state g.S.Store c.advance_database.new.tx.conn.now in
    let db = c.args.db.now in
    let a = addition_of c.args.write.now in
    let e = c.in_ok-advance_database.ensures.alters in
    let was : HasCleanDisk mid = omega (arith, e.proceeds.survives.clean, clean) in
    let write = c.in_ok-write_by_cached_history.ensures.ok was store stored (subst (λ n. HasPlaceFor (history_in_rows (old.now.trees revs_tree) n a.id) a) (sym numbered) place) in
    moved_write r a db c.args.sequence.now old.now mid.now new.now numbered at write
    (e.ok clean (schema_placed _ db a.id old.now write.inserted store write.revisions _ _ _ mid.now write.places) (dbs_fit _ db a.id old.now write.inserted store write.revisions _ _ _ mid.now write.places))

pub returns-clause-writes : goal.returns-clause-writes
returns-clause-writes g c =
    let old = state g.S.Store c.args.tx.now.conn.now in
    let mid = state g.S.Store c.write_by_cached_history.new.tx.conn.now in
    let new = state g.S.Store c.advance_database.new.tx.conn.now in
    let w = c.in_ok-write_by_cached_history.ensures.writes in
    let e = c.in_ok-advance_database.ensures.alters in
    record {
      after = λ clean. let was : HasCleanDisk mid = omega (arith, e.proceeds.survives.clean, clean) in w.after was;
      err = tt;
      lawful = w.lawful;
      inside = λ clean. let on = e.inside clean in (on.is_open, on.inside);
      looks = λ has. proceeds_then old mid new (w.looks has) e.proceeds;
      asks = asks_then old mid new w.asks (asks_changed mid new e.proceeds);
    }
