use Rattle.std.proofs.Common.{ap, ◌∙◌}
use Rattle.ranks.specs.Counts.{total_of}
use Rattle.ranks.proofs.Segments.{segments_total}
use Rattle.ranks.proofs.ranks.Ranks.total.Goals as goal

pub returns-clause-total : goal.returns-clause-total
returns-clause-total c keys t = c.self.invariant.1 ∙ ap (λ r. total_of r.head r.segments) c.self.view_is ∙ segments_total _ _ _ t
