-- Rows that don't tie, sorted by the order the other way round, are the sorted rows from the last to the first.
use Rattle.tables.proofs.Common.{IsAscending, IsPermutation-sort_by, IsTotalOrder, List, Ordering, Row, [], ap, arith, ascending_weaker, false, is_eq, is_gt, is_lt, ordering_reverse, refl, sort_by, sorted_is-sort_by, suc, sym, ℕ, ◌+◌, ◌<◌, ◌∙◌, ◌∷◌, ◌≡◌}
use Rattle.std.proofs.Common.{AllPairs, Equal, Greater, IsSorted, Less, get_or, length, reverse, zero}
use Rattle.std.proofs.lemmas.List.Elements.{All-from_recursion}
use Rattle.std.proofs.lemmas.List.Sorted.{IsPermutation-reverse, IsPermutation-sym, IsPermutation-trans}
use Rattle.std.specs.Cmp.{back_total}
use Rattle.store.proofs.Directed.{pairs_reverse}
use Rattle.tables.proofs.Sorted.{AtMost, rises}

pairs_from : {X : Type 0} (R : X → X → Type 0) (xs : List X) → IsAscending R xs → AllPairs R xs
pairs_from R [] up = λ i j d lt within. absurd (omega (arith, lt, within))
pairs_from {X} R (x ∷ xs) up = go (pairs_from R xs up.1)
  where
    go : AllPairs R xs → (i j : ℕ) (d : X) → i < j → j < length (x ∷ xs) → R (get_or (x ∷ xs) i d) (get_or (x ∷ xs) j d)
    go rest zero zero d lt within = absurd (omega (arith, lt))
    go rest zero (suc j) d lt within = All-from_recursion (R x) xs up.0 j d (omega (arith, within))
    go rest (suc i) zero d lt within = absurd (omega (arith, lt))
    go rest (suc i) (suc j) d lt within = rest i j d (omega (arith, lt)) (omega (arith, within))

turned_lt : (o : Ordering) → is_lt (ordering_reverse o) ≡ is_gt o
turned_lt Less = refl
turned_lt Equal = refl
turned_lt Greater = refl

turned_eq : (o : Ordering) → is_eq (ordering_reverse o) ≡ is_eq o
turned_eq Less = refl
turned_eq Equal = refl
turned_eq Greater = refl

module _ (cmp : Row → Row → Ordering) (total : IsTotalOrder cmp) where
  abbrev back : Row → Row → Ordering
  back a b = cmp b a

  reversed_sorted : (rows : List Row) → IsAscending (AtMost cmp total) rows → IsSorted back (reverse rows)
  reversed_sorted rows up =
      let pairs : AllPairs (λ a b. AtMost cmp total b a) (reverse rows) = pairs_reverse (λ a b. AtMost cmp total b a) rows (pairs_from (AtMost cmp total) rows up) in
      λ k d low within. ap is_lt (total.antisymm (get_or (reverse rows) k d) (get_or (reverse rows) (k + 1) d)) ∙ turned_lt (cmp (get_or (reverse rows) (k + 1) d) (get_or (reverse rows) k d)) ∙ pairs k (k + 1) d (omega arith) within

  pub sorted_back : (rows : List Row) → IsAscending (λ a b. is_eq (cmp a b) ≡ false) rows → sort_by back rows ≡ reverse (sort_by cmp rows)
  sorted_back rows apart =
      sym
      (sorted_is-sort_by back (back_total total) rows (reverse (sort_by cmp rows))
      (ascending_weaker (λ a b. is_eq (cmp a b) ≡ false) (λ a b. is_eq (cmp b a) ≡ false) (λ a b h. ap is_eq (total.antisymm b a) ∙ turned_eq (cmp a b) ∙ h) rows apart)
      (IsPermutation-trans rows (sort_by cmp rows) (reverse (sort_by cmp rows)) (IsPermutation-sym (sort_by cmp rows) rows (IsPermutation-sort_by cmp total rows)) (IsPermutation-reverse (sort_by cmp rows)))
      (reversed_sorted (sort_by cmp rows) (rises cmp total rows)))
