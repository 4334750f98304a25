use Rattle.index.proofs.Common.{reads_of, rules}
use Rattle.index.proofs.RangeStatements.{down_are, lists_down}
use Rattle.index.proofs.entries.rows_down.Goals as goal

pub returns : goal.returns
returns g c =
    reads_of g.S.Store _ _ down_are _ (λ is. lists_down _ _ is c.args.declaration.now c.args.low.now c.args.high.now c.args.most.now c.args.skip.now c.query.result (λ rows. rows.items))
    c.query.ensures.ok (search rules) c.query.ensures.served c.query.ensures.stands c.query.ensures.looks c.query.ensures.asks
