use Rattle.transactions.proofs.Lemmas.{Cleared, HasCleanDisk, arith, cleared, dbs_fit, docs_keyed, locals_fit, revs_fit, state, ◌∙◌}
use Rattle.transactions.proofs.changes.clear_database.Goals as goal

pub returns-clause-ok : goal.returns-clause-ok
returns-clause-ok g c clean store =
    let a = state g.S.Store c.args.tx.now.conn.now in
    let b = state g.S.Store c.clear_documents.new.tx.conn.now in
    let d = state g.S.Store c.clear_revisions.new.tx.conn.now in
    let e = state g.S.Store c.clear_locals.new.tx.conn.now in
    let f = state g.S.Store c.delete_database.new.tx.conn.now in
    let n = c.args.number.now in
    let fourth : HasCleanDisk e = omega (arith, c.delete_database.ensures.alters.proceeds.survives.clean, clean) in
    let third : HasCleanDisk d = omega (arith, c.clear_locals.ensures.alters.proceeds.survives.clean, fourth) in
    let second : HasCleanDisk b = omega (arith, c.clear_revisions.ensures.alters.proceeds.survives.clean, third) in
    let docs = c.in_ok-clear_documents.ensures.alters.ok second store.schema_is (docs_keyed a.now.trees store.laid) in
    let revs = c.in_ok-clear_revisions.ensures.alters.ok third (docs.schema ∙ store.schema_is) (revs_fit n a.now b.now store docs) in
    let locals = c.in_ok-clear_locals.ensures.alters.ok fourth (revs.schema ∙ docs.schema ∙ store.schema_is) (locals_fit n a.now b.now d.now store docs revs) in
    let t : Cleared n a.now b.now d.now e.now = record { documents = docs; revisions = revs; locals = locals } in
    cleared c.delete_database.result n a.now b.now d.now e.now f.now t
    (c.delete_database.ensures.alters.ok clean (locals.schema ∙ revs.schema ∙ docs.schema ∙ store.schema_is) (dbs_fit n a.now b.now d.now e.now store t))
