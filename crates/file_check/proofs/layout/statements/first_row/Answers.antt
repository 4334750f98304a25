use Rattle.tables.proofs.Lemmas.{reads_of, rules}
use Rattle.file_check.proofs.Refused.{refuses_only}
use Rattle.file_check.proofs.Statements.{asks_first, first_means, lists_first}
use Rattle.file_check.proofs.layout.statements.first_row.Goals as goal

pub returns-clause-reads : goal.returns-clause-reads
returns-clause-reads g c =
    let means = first_means c.args.table c.first_text.result.now c.first_text.ensures in
    reads_of g.S.Store _ _ means _ (λ fit. lists_first c.args.table _ _ fit means c.query.result (λ rows. rows.items))
    c.query.ensures.ok (search rules) c.query.ensures.served c.query.ensures.stands c.query.ensures.looks c.query.ensures.asks

pub returns-clause-failed : goal.returns-clause-failed
returns-clause-failed g c = refuses_only g.S.Store c.args.conn.now c.query.new.conn (first_means c.args.table c.first_text.result.now c.first_text.ensures) (asks_first c.args.table c.first_text.result.now c.first_text.ensures) (search rules) c.query.result c.query.ensures.err
