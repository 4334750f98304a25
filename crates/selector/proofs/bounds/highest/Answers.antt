use Rattle.std.proofs.Common.{sym, ◌∙◌}
use Rattle.selector.proofs.Edges.{below_from, below_to, or_second, or_first}
use Rattle.selector.proofs.bounds.highest.Goals as goal

pub returns-then-is_no_lower : goal.returns-then-is_no_lower
returns-then-is_no_lower c =
    λ v. or_first _ _ (below_from v c.in-Some-Some.is-0 c.in-Some-Some.is-1 (sym c.is_no_lower.ensures ∙ c.if-is_no_lower.true))

pub returns-else-is_no_lower : goal.returns-else-is_no_lower
returns-else-is_no_lower c =
    λ v. or_second _ _ (below_to v c.in-Some-Some.is-0 c.in-Some-Some.is-1 (sym c.is_no_lower.ensures ∙ c.if-is_no_lower.false))
