use Rattle.index.proofs.Common.{reads_of, rules}
use Rattle.index.proofs.DeclarationStatements.{finds_index, index_is}
use Rattle.index.proofs.declarations.rows_of_index.Goals as goal

pub returns : goal.returns
returns g c =
    reads_of g.S.Store _ _ index_is _ (λ is. finds_index _ _ is c.args.db.now c.args.design.now c.args.name.now c.query.result (λ rows. rows.items))
    c.query.ensures.ok (search rules) c.query.ensures.served c.query.ensures.stands c.query.ensures.looks c.query.ensures.asks
