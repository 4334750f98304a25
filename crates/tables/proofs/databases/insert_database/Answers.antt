use Rattle.tables.proofs.Lemmas.{Blob, Text, [], ◌∷◌, alters, cast_database, dbs_plain, dbs_table, inserts_database, inserts_row, numbered_databases, refl, rules, insert_stays, schema}
use Rattle.tables.proofs.databases.insert_database.Goals as goal

pub returns-clause-alters : goal.returns-clause-alters
returns-clause-alters g c =
    alters g.S.Store _ _ _ _ (λ has fit. inserts_row 1 dbs_table dbs_plain _ _ has inserts_database (Blob c.args.name.now ∷ Text c.args.security.now ∷ []) _ (cast_database _ _) (numbered_databases _ fit) refl c.change.result) (λ has. insert_stays schema 1 dbs_table dbs_plain _ _ has inserts_database _ c.change.result)
    c.change.ensures.ok (search rules) c.change.ensures.inside c.change.ensures.proceeds
