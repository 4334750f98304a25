use Rattle.file_check.proofs.Statements.{all_versions, versions_are, versions_asked}
use Rattle.tables.proofs.Lemmas.{reads_of, rules}
use Rattle.file_check.proofs.Refused.{refuses_only}
use Rattle.file_check.proofs.layout.statements.version_rows.Goals as goal

pub returns-clause-reads : goal.returns-clause-reads
returns-clause-reads g c =
    reads_of g.S.Store _ _ versions_are _ (λ fit. all_versions _ _ fit c.query.result (λ rows. rows.items))
    c.query.ensures.ok (search rules) c.query.ensures.served c.query.ensures.stands c.query.ensures.looks c.query.ensures.asks

pub returns-clause-failed : goal.returns-clause-failed
returns-clause-failed g c = refuses_only g.S.Store c.args.conn.now c.query.new.conn versions_are versions_asked (search rules) c.query.result c.query.ensures.err
