use Rattle.index.proofs.Common.{reads_of, rules}
use Rattle.file_check.proofs.IndexStatements.{home_is, lists_home}
use Rattle.file_check.proofs.indexes.statements.index_rows_of.Goals as goal

pub returns : goal.returns
returns g c =
    reads_of g.S.Store _ _ home_is _ (λ is. lists_home _ _ is c.args.db.now c.query.result (λ rows. rows.items))
    c.query.ensures.ok (search rules) c.query.ensures.served c.query.ensures.stands c.query.ensures.looks c.query.ensures.asks
