use Rattle.tables.proofs.Lemmas.{alters, clears_declarations, decls_plain, decls_table, delete_stays, empties, refl, rules, schema}
use Rattle.tables.proofs.renewing.clear_declarations.Goals as goal

pub returns-clause-alters : goal.returns-clause-alters
returns-clause-alters g c =
    alters g.S.Store _ _ _ _ (λ has fit. empties 5 decls_table decls_plain _ _ has clears_declarations refl fit c.change.result)
    (λ has. delete_stays schema 5 decls_table decls_plain _ _ has clears_declarations _ c.change.result)
    c.change.ensures.ok (search rules) c.change.ensures.inside c.change.ensures.proceeds
