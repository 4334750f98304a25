use Rattle.std.proofs.Common.{sym, ◌∙◌}
use Rattle.selector.proofs.Edges.{above_from, above_to, and_first, and_second}
use Rattle.selector.proofs.bounds.higher.Goals as goal

pub returns-then-is_no_higher : goal.returns-then-is_no_higher
returns-then-is_no_higher c =
    λ v. and_second _ _ (above_from v c.in-Some-Some.is-0 c.in-Some-Some.is-1 (sym c.is_no_higher.ensures ∙ c.if-is_no_higher.true))

pub returns-else-is_no_higher : goal.returns-else-is_no_higher
returns-else-is_no_higher c =
    λ v. and_first _ _ (above_to v c.in-Some-Some.is-0 c.in-Some-Some.is-1 (sym c.is_no_higher.ensures ∙ c.if-is_no_higher.false))
