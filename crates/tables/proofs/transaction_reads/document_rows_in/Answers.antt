use Rattle.tables.proofs.Lemmas.{document_is, finds_document, reads_inside, rules, shown_given, state}
use Rattle.tables.proofs.transaction_reads.document_rows_in.Goals as goal

pub returns-clause-reads : goal.returns-clause-reads
returns-clause-reads g c =
    reads_inside g.S.Store _ _ document_is _ (λ is. finds_document _ _ is c.args.db.now c.args.id.now c.query_in.result (λ rows. rows.items))
    c.query_in.ensures.ok (search rules) c.query_in.ensures.served c.query_in.ensures.stands c.query_in.ensures.proceeds c.query_in.ensures.asks

pub returns-clause-shown : goal.returns-clause-shown
returns-clause-shown g c clean =
    shown_given (state g.S.Store c.args.tx.now.conn.now) (state g.S.Store c.query_in.new.tx.conn.now) _ _ _ c.query_in.result (λ rows. rows.items) (c.query_in.ensures.ok clean) (search rules)
