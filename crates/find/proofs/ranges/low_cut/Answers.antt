use Rattle.std.proofs.Common.{sym, ap, ◌∙◌}
use Rattle.selector.specs.Bounds.{is_above as is_over}
use Rattle.find.proofs.KeyRanges.{low_made}
use Rattle.find.proofs.ranges.low_cut.Goals as goal

pub returns-in_ok-cut_at-in-Some : goal.returns-in_ok-cut_at-in-Some
returns-in_ok-cut_at-in-Some c = λ v vs h.
    low_made c.in-Some.edge c.in_ok-cut_at-in-Some.field-0 c.side_of.result c.in_ok-cut_at-in-Some.ensures c.side_of.ensures v vs (ap (λ e. is_over e v) (sym c.in-Some.is) ∙ h)
