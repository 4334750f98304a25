use Rattle.file_check.proofs.Statements.{finds_document_row}
use Rattle.tables.proofs.Lemmas.{document_is, reads_of, rules}
use Rattle.file_check.proofs.Refused.{refuses_only}
use Rattle.file_check.proofs.Statements.{document_asked}
use Rattle.file_check.proofs.layout.statements.one_document_rows.Goals as goal

pub returns-clause-reads : goal.returns-clause-reads
returns-clause-reads g c =
    reads_of g.S.Store _ _ document_is _ (λ fit. finds_document_row _ _ fit c.args.db.now c.args.id.now c.query.result (λ rows. rows.items))
    c.query.ensures.ok (search rules) c.query.ensures.served c.query.ensures.stands c.query.ensures.looks c.query.ensures.asks

pub returns-clause-failed : goal.returns-clause-failed
returns-clause-failed g c = refuses_only g.S.Store c.args.conn.now c.query.new.conn document_is (document_asked c.args.db.now c.args.id.now) (search rules) c.query.result c.query.ensures.err
