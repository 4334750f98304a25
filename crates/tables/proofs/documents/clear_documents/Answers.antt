use Rattle.tables.proofs.Lemmas.{alters, clears, clears_documents, docs_plain, docs_table, refl, rules, delete_stays, schema}
use Rattle.tables.proofs.documents.clear_documents.Goals as goal

pub returns-clause-alters : goal.returns-clause-alters
returns-clause-alters g c =
    alters g.S.Store _ _ _ _ (λ has fit. clears 2 docs_table docs_plain _ _ has refl fit clears_documents c.args.db.now c.change.result) (λ has. delete_stays schema 2 docs_table docs_plain _ _ has clears_documents _ c.change.result)
    c.change.ensures.ok (search rules) c.change.ensures.inside c.change.ensures.proceeds
