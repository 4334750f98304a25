use Rattle.selector.proofs.Edges.{contain-both}
use Rattle.selector.proofs.bounds.overlap.Goals as goal

pub returns-in-Range-Range-clause-contain : goal.returns-in-Range-Range-clause-contain
returns-in-Range-Range-clause-contain c =
    let ranges = c.in-Range-Range in
    λ field. rw (ranges.is-0, ranges.is-1) (contain-both ranges.low ranges.high ranges.other_low ranges.other_high c.higher.result c.lower.result c.higher.ensures c.lower.ensures field)
