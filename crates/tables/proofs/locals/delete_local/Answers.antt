use Rattle.tables.proofs.Lemmas.{alters, deletes_id, deletes_local, locals_plain, locals_table, refl, rules, delete_stays, schema}
use Rattle.tables.proofs.locals.delete_local.Goals as goal

pub returns-clause-alters : goal.returns-clause-alters
returns-clause-alters g c =
    alters g.S.Store _ _ _ _ (λ has fit. deletes_id 4 locals_table locals_plain _ _ has refl fit deletes_local c.args.db.now c.args.id.now c.change.result) (λ has. delete_stays schema 4 locals_table locals_plain _ _ has deletes_local _ c.change.result)
    c.change.ensures.ok (search rules) c.change.ensures.inside c.change.ensures.proceeds
