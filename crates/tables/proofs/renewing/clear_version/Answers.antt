use Rattle.tables.proofs.Lemmas.{alters, clears_version, delete_stays, empties, meta_plain, meta_table, refl, rules, schema}
use Rattle.tables.proofs.renewing.clear_version.Goals as goal

pub returns-clause-alters : goal.returns-clause-alters
returns-clause-alters g c =
    alters g.S.Store _ _ _ _ (λ has fit. empties 0 meta_table meta_plain _ _ has clears_version refl fit c.change.result)
    (λ has. delete_stays schema 0 meta_table meta_plain _ _ has clears_version _ c.change.result)
    c.change.ensures.ok (search rules) c.change.ensures.inside c.change.ensures.proceeds
