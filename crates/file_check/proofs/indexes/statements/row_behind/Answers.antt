use Rattle.index.proofs.Common.{reads_of, rules}
use Rattle.file_check.proofs.IndexStatements.{behind_means, lists_behind}
use Rattle.file_check.proofs.indexes.statements.row_behind.Goals as goal

pub returns : goal.returns
returns g c =
    let means = behind_means c.args.table c.behind_text.result.now c.behind_text.ensures in
    reads_of g.S.Store _ _ means _ (λ fit. lists_behind c.args.table _ _ fit means c.args.last.now c.query.result (λ rows. rows.items))
    c.query.ensures.ok (search rules) c.query.ensures.served c.query.ensures.stands c.query.ensures.looks c.query.ensures.asks
