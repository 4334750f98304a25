use Rattle.std.proofs.Common.{refl, rules}
use Rattle.std.proofs.lemmas.Fn.{always_returns_same, dedup_same}
use Rattle.std.proofs.lemmas.List.Kept.{IsStrictlySortedBy-dedup}
use Rattle.std.proofs.lemmas.List.Sorted.{ranks_by}
use Rattle.std.specs.Ordering.{is_lt}
use Rattle.selector.specs.Members.{value_order}
use Rattle.selector.proofs.Searches.{HaveSame-sorted, ties, value_order_total}
use Rattle.selector.proofs.members.sort_values.Goals as goal

pub returns-clause-same : goal.returns-clause-same
returns-clause-same c =
    HaveSame-sorted _ _ _ c.sort_unstable_by.ensures.permutation (dedup_same _ ties _ (λ x y b f' x' y' k. search rules) _ _ c.dedup_by.ensures.filtered)

pub returns-clause-ascending : goal.returns-clause-ascending
returns-clause-ascending c =
    let left = dedup_same _ ties _ (λ x y b f' x' y' k. search rules) _ _ c.dedup_by.ensures.filtered in
    let sorted = c.sort_unstable_by.ensures.sorted (λ x y. is_lt (value_order x y)) (ranks_by value_order_total (λ j. j)) (always_returns_same _ _ _ (λ a r f called. search rules)) in
    rw left (IsStrictlySortedBy-dedup value_order_total (λ x y. refl) _ sorted)
