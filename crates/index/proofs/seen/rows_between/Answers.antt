use Rattle.index.proofs.Common.{reads_inside, rules}
use Rattle.index.proofs.DesignIds.{between_are, lists_between}
use Rattle.index.proofs.seen.rows_between.Goals as goal

pub returns-clause-reads : goal.returns-clause-reads
returns-clause-reads g c =
    reads_inside g.S.Store _ _ between_are _ (λ is. lists_between _ _ is c.args.db.now c.args.low.now c.args.high.now c.query_in.result (λ rows. rows.items))
    c.query_in.ensures.ok (search rules) c.query_in.ensures.served c.query_in.ensures.stands c.query_in.ensures.proceeds c.query_in.ensures.asks
