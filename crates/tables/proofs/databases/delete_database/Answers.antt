use Rattle.tables.proofs.Lemmas.{Int, [], ◌∷◌, alters, dbs_plain, dbs_table, deletes_database, deletes_where, has_number, numbered_databases, refl, rules, tests_number, delete_stays, schema}
use Rattle.tables.proofs.databases.delete_database.Goals as goal

pub returns-clause-alters : goal.returns-clause-alters
returns-clause-alters g c =
    alters g.S.Store _ _ _ _
    (λ has fit. deletes_where 1 dbs_table dbs_plain _ _ has deletes_database (Int c.args.number.now ∷ []) (has_number c.args.number.now) refl (numbered_databases _ fit) (tests_number _ [] _ (numbered_databases _ fit)) c.change.result) (λ has. delete_stays schema 1 dbs_table dbs_plain _ _ has deletes_database _ c.change.result)
    c.change.ensures.ok (search rules) c.change.ensures.inside c.change.ensures.proceeds
