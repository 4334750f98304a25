use Rattle.tables.proofs.Lemmas.{alters, clears, clears_revisions, refl, revs_plain, revs_table, rules, delete_stays, schema}
use Rattle.tables.proofs.revisions.clear_revisions.Goals as goal

pub returns-clause-alters : goal.returns-clause-alters
returns-clause-alters g c =
    alters g.S.Store _ _ _ _ (λ has fit. clears 3 revs_table revs_plain _ _ has refl fit clears_revisions c.args.db.now c.change.result) (λ has. delete_stays schema 3 revs_table revs_plain _ _ has clears_revisions _ c.change.result)
    c.change.ensures.ok (search rules) c.change.ensures.inside c.change.ensures.proceeds
