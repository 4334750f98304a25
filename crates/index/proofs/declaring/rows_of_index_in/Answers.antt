use Rattle.index.proofs.Common.{reads_inside, rules}
use Rattle.index.proofs.DeclarationStatements.{finds_index, index_is}
use Rattle.index.proofs.declaring.rows_of_index_in.Goals as goal

pub returns-clause-reads : goal.returns-clause-reads
returns-clause-reads g c =
    reads_inside g.S.Store _ _ index_is _ (λ is. finds_index _ _ is c.args.db.now c.args.design.now c.args.name.now c.query_in.result (λ rows. rows.items))
    c.query_in.ensures.ok (search rules) c.query_in.ensures.served c.query_in.ensures.stands c.query_in.ensures.proceeds c.query_in.ensures.asks
