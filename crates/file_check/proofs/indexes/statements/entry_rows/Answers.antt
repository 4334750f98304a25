use Rattle.index.proofs.Common.{reads_of, rules}
use Rattle.file_check.proofs.IndexStatements.{finds_entry, own_entry_is}
use Rattle.file_check.proofs.indexes.statements.entry_rows.Goals as goal

pub returns : goal.returns
returns g c =
    reads_of g.S.Store _ _ own_entry_is _ (λ is. finds_entry _ _ is c.args.declaration.now c.args.key.now c.args.id.now c.query.result (λ rows. rows.items))
    c.query.ensures.ok (search rules) c.query.ensures.served c.query.ensures.stands c.query.ensures.looks c.query.ensures.asks
