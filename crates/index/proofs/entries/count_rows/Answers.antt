use Rattle.index.proofs.Common.{reads_of, rules}
use Rattle.index.proofs.Counts.{count_is, counts_entries}
use Rattle.index.proofs.entries.count_rows.Goals as goal

pub returns : goal.returns
returns g c =
    reads_of g.S.Store _ _ count_is _ (λ is. counts_entries _ _ is c.args.declaration.now c.args.low.now c.args.high.now c.query.result (λ rows. rows.items))
    c.query.ensures.ok (search rules) c.query.ensures.served c.query.ensures.stands c.query.ensures.looks c.query.ensures.asks
