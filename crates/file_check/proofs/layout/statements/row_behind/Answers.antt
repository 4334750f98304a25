use Rattle.tables.proofs.Lemmas.{reads_of, rules}
use Rattle.file_check.proofs.Refused.{refuses_only}
use Rattle.file_check.proofs.Statements.{asks_behind, behind_means, lists_behind}
use Rattle.file_check.proofs.layout.statements.row_behind.Goals as goal

pub returns-clause-reads : goal.returns-clause-reads
returns-clause-reads g c =
    let means = behind_means c.args.table c.behind_text.result.now c.behind_text.ensures in
    reads_of g.S.Store _ _ means _ (λ fit. lists_behind c.args.table _ _ fit means c.args.last.now c.query.result (λ rows. rows.items))
    c.query.ensures.ok (search rules) c.query.ensures.served c.query.ensures.stands c.query.ensures.looks c.query.ensures.asks

pub returns-clause-failed : goal.returns-clause-failed
returns-clause-failed g c = refuses_only g.S.Store c.args.conn.now c.query.new.conn (behind_means c.args.table c.behind_text.result.now c.behind_text.ensures) (asks_behind c.args.table c.behind_text.result.now c.args.last.now c.behind_text.ensures) (search rules) c.query.result c.query.ensures.err
