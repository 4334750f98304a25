use Rattle.tables.proofs.Lemmas.{document_is, finds_document, reads_of, rules, shown_given, state}
use Rattle.tables.proofs.documents.document_rows.Goals as goal

pub returns-clause-reads : goal.returns-clause-reads
returns-clause-reads g c =
    reads_of g.S.Store _ _ document_is _ (λ is. finds_document _ _ is c.args.db.now c.args.id.now c.query.result (λ rows. rows.items))
    c.query.ensures.ok (search rules) c.query.ensures.served c.query.ensures.stands c.query.ensures.looks c.query.ensures.asks

pub returns-clause-shown : goal.returns-clause-shown
returns-clause-shown g c clean =
    shown_given (state g.S.Store c.args.conn.now) (state g.S.Store c.query.new.conn) _ _ _ c.query.result (λ rows. rows.items) (c.query.ensures.ok clean) (search rules)
