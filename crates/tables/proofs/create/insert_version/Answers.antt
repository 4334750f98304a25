use Rattle.tables.proofs.Lemmas.{[], alters, cast_version, inserts_row, inserts_version, meta_plain, meta_table, refl, rules, insert_stays, schema}
use Rattle.tables.proofs.create.insert_version.Goals as goal

pub returns-clause-alters : goal.returns-clause-alters
returns-clause-alters g c =
    alters g.S.Store _ _ _ _ (λ has fit. inserts_row 0 meta_table meta_plain _ _ has inserts_version [] _ cast_version fit refl c.change.result) (λ has. insert_stays schema 0 meta_table meta_plain _ _ has inserts_version _ c.change.result)
    c.change.ensures.ok (search rules) c.change.ensures.inside c.change.ensures.proceeds
