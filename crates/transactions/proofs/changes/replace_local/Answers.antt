use Rattle.transactions.proofs.Lemmas.{HasCleanDisk, arith, left_keyed, locals_keyed, replaced, state, ◌∙◌}
use Rattle.transactions.proofs.changes.replace_local.Goals as goal

pub returns-clause-ok : goal.returns-clause-ok
returns-clause-ok g c clean store =
    let old = state g.S.Store c.args.tx.now.conn.now in
    let mid = state g.S.Store c.delete_local.new.tx.conn.now in
    let new = state g.S.Store c.insert_local.new.tx.conn.now in
    let was : HasCleanDisk mid = omega (arith, c.insert_local.ensures.alters.proceeds.survives.clean, clean) in
    let out = c.in_ok-delete_local.ensures.alters.ok was store.schema_is (locals_keyed old.now.trees store.laid) in
    replaced c.insert_local.result c.args.db.now c.args.id.now c.args.number c.args.body.now old.now mid.now new.now out
    (c.insert_local.ensures.alters.ok clean (out.schema ∙ store.schema_is) (left_keyed old.now mid.now _ store out))
