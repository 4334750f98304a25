use Rattle.index.proofs.Common.{reads_of, rules}
use Rattle.file_check.proofs.IndexStatements.{first_means, lists_first}
use Rattle.file_check.proofs.indexes.statements.first_row.Goals as goal

pub returns : goal.returns
returns g c =
    let means = first_means c.args.table c.first_text.result.now c.first_text.ensures in
    reads_of g.S.Store _ _ means _ (λ fit. lists_first c.args.table _ _ fit means c.query.result (λ rows. rows.items))
    c.query.ensures.ok (search rules) c.query.ensures.served c.query.ensures.stands c.query.ensures.looks c.query.ensures.asks
