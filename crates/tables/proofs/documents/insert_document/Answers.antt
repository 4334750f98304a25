use Rattle.tables.proofs.Lemmas.{document_cells, alters, cast_document, docs_plain, docs_table, inserts_document, inserts_row, numbered_from_keyed, refl, rules, insert_stays, schema}
use Rattle.tables.proofs.documents.insert_document.Goals as goal

pub returns-clause-alters : goal.returns-clause-alters
returns-clause-alters g c =
    let given = document_cells c.args.db.now c.args.id.now c.args.sequence.now c.args.winner.now c.args.deleted in
    alters g.S.Store _ _ _ _ (λ has fit. inserts_row 2 docs_table docs_plain _ _ has inserts_document given _ (cast_document _ _ _ _ _) (numbered_from_keyed _ fit) refl c.change.result) (λ has. insert_stays schema 2 docs_table docs_plain _ _ has inserts_document _ c.change.result)
    c.change.ensures.ok (search rules) c.change.ensures.inside c.change.ensures.proceeds
