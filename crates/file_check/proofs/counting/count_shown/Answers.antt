use Rattle.tables.proofs.Lemmas.{reads_of, rules}
use Rattle.file_check.proofs.Refused.{refuses_only}
use Rattle.file_check.proofs.RowCounts.{counts_all, text_asked, text_means}
use Rattle.file_check.proofs.counting.count_shown.Goals as goal

pub returns-clause-reads : goal.returns-clause-reads
returns-clause-reads g c =
    let text = c.count_text.result.now in
    reads_of g.S.Store _ _ (text_means text c.args.table c.count_text.ensures) _ (λ has. counts_all text c.args.table c.count_text.ensures _ _ has c.query.result (λ rows. rows.items))
    c.query.ensures.ok (search rules) c.query.ensures.served c.query.ensures.stands c.query.ensures.looks c.query.ensures.asks

pub returns-clause-failed : goal.returns-clause-failed
returns-clause-failed g c = refuses_only g.S.Store c.args.conn.now c.query.new.conn (text_means c.count_text.result.now c.args.table c.count_text.ensures) (text_asked c.count_text.result.now c.args.table c.count_text.ensures) (search rules) c.query.result c.query.ensures.err
