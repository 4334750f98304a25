use Rattle.tables.proofs.Lemmas.{alters, clears, clears_locals, locals_plain, locals_table, refl, rules, delete_stays, schema}
use Rattle.tables.proofs.locals.clear_locals.Goals as goal

pub returns-clause-alters : goal.returns-clause-alters
returns-clause-alters g c =
    alters g.S.Store _ _ _ _ (λ has fit. clears 4 locals_table locals_plain _ _ has refl fit clears_locals c.args.db.now c.change.result) (λ has. delete_stays schema 4 locals_table locals_plain _ _ has clears_locals _ c.change.result)
    c.change.ensures.ok (search rules) c.change.ensures.inside c.change.ensures.proceeds
