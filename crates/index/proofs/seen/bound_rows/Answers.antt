use Rattle.index.proofs.Common.{reads_inside, rules}
use Rattle.index.proofs.DesignIds.{bound_are, lists_bound}
use Rattle.index.proofs.seen.bound_rows.Goals as goal

pub returns-clause-reads : goal.returns-clause-reads
returns-clause-reads g c =
    reads_inside g.S.Store _ _ bound_are _ (λ is. lists_bound _ _ is c.args.db.now c.args.low.now c.args.high.now c.query_in.result (λ rows. rows.items) c.args.most.now c.args.skip.now)
    c.query_in.ensures.ok (search rules) c.query_in.ensures.served c.query_in.ensures.stands c.query_in.ensures.proceeds c.query_in.ensures.asks
