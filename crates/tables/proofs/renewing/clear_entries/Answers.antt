use Rattle.tables.proofs.Lemmas.{alters, clears_entries, delete_stays, empties, entries_plain, entries_table, refl, rules, schema}
use Rattle.tables.proofs.renewing.clear_entries.Goals as goal

pub returns-clause-alters : goal.returns-clause-alters
returns-clause-alters g c =
    alters g.S.Store _ _ _ _ (λ has fit. empties 6 entries_table entries_plain _ _ has clears_entries refl fit c.change.result)
    (λ has. delete_stays schema 6 entries_table entries_plain _ _ has clears_entries _ c.change.result)
    c.change.ensures.ok (search rules) c.change.ensures.inside c.change.ensures.proceeds
