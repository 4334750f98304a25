use Rattle.transactions.proofs.Lemmas.{HasCleanDisk, Some, arith, path_inserted, rules, slice_get, state, take_rest, ◌∙◌, ◌≡◌}
use Rattle.tables.proofs.DocumentWriteSteps.{inserted_fit, revisions_changed}
use Rattle.transactions.proofs.document_write.insert_path.Goals as goal

pub returns-clause-ok : goal.returns-clause-ok
returns-clause-ok g c v spelled clean has keyed =
    let old = state g.S.Store c.args.tx.now.conn.now in
    let mid = state g.S.Store c.insert_newest.new.tx.conn.now in
    let new = state g.S.Store c.insert_line.new.tx.conn.now in
    let db = c.args.db.now in
    let id = c.args.id.now in
    let was : HasCleanDisk mid = omega (arith, c.insert_line.ensures.proceeds.survives.clean, clean) in
    let first : slice_get c.args.path.now 0 ≡ Some c.in-Some.newest.now = search rules in
    let one = c.in_ok-insert_newest.ensures.ok v spelled was has keyed in
    path_inserted db id c.insert_line.result c.args.history.now (Some (record { deleted = c.args.deleted; body = v })) c.args.path.now _ c.args.parent.now c.find_next-next.result c.in-Some.newest.now
    old.now mid.now new.now first (take_rest c.args.path.now 1) c.find_next-next.ensures one
    (c.insert_line.ensures.ok clean ((revisions_changed _ db id old.now mid.now one).schema ∙ has) (inserted_fit _ db id old.now mid.now one keyed))
