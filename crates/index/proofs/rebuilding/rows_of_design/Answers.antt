use Rattle.index.proofs.Common.{reads_inside, rules}
use Rattle.index.proofs.DesignStatements.{design_is, lists_design}
use Rattle.index.proofs.rebuilding.rows_of_design.Goals as goal

pub returns-clause-reads : goal.returns-clause-reads
returns-clause-reads g c =
    reads_inside g.S.Store _ _ design_is _ (λ is. lists_design _ _ is c.args.db.now c.args.design.now c.query_in.result (λ rows. rows.items))
    c.query_in.ensures.ok (search rules) c.query_in.ensures.served c.query_in.ensures.stands c.query_in.ensures.proceeds c.query_in.ensures.asks
