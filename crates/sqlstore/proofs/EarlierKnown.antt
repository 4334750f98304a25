-- What is known of the databases that were asked for before the latest one, where some are taken out or put in.
use Rattle.sqlstore.proofs.Common.{AllByRecursion, Bool, KnownDatabase, List, None, Some, Trees, all-slice_get, all_weaker, cond, drop, false, filter, not, refl, slice_get, subst, sym, true, ℕ, ◌++◌, ◌+◌, ◌∷◌, ◌≡◌, ◌≢◌}
use Rattle.std.proofs.lemmas.Slice.Eq.{bytes_eq-Decides}
use Rattle.std.specs.Prelude.{[], bytes_eq, take}
use Rattle.sqlite_keyed.proofs.ListLemmas.{all-append, all-filter}
use Rattle.index.proofs.PagePlaces.{all_dropped, all_taken}
use Rattle.tables.proofs.RowMaps.{passing}
use Rattle.sqlstore.proofs.KnownCounts.{known_split}
use Rattle.sqlstore.specs.inner.Reading.{without_indexes}
use Rattle.sqlstore.specs.Standing.{AreKnown, IsKnownDatabase}

abbrev IsEarlier : Trees → KnownDatabase → Type 0
IsEarlier trees k = IsKnownDatabase trees k × (k.indexes ≡ None) × (k.index_ranks ≡ None) × (k.designs ≡ None)

module _ (trees : Trees) (ks : List KnownDatabase) (known : AreKnown trees ks) where
  -- without the one at a place
  pub removed_known : (i : ℕ) → AreKnown trees (take i ks ++ drop (i + 1) ks)
  removed_known i = all-append (IsEarlier trees) (take i ks) (drop (i + 1) ks) (all_taken (IsEarlier trees) i ks known) (all_dropped (IsEarlier trees) (i + 1) ks known)

  -- the one at a place
  pub known_at : (i : ℕ) (k : KnownDatabase) → slice_get ks i ≡ Some k → IsKnownDatabase trees k
  known_at i k is = (all-slice_get (IsEarlier trees) ks i k is known).0

  -- with one more, whose indexes are forgotten
  pub pushed_known : (k : KnownDatabase) → IsKnownDatabase trees k → AreKnown trees (ks ++ without_indexes k ∷ [])
  pushed_known k is = all-append (IsEarlier trees) ks (without_indexes k ∷ []) known ((known_split trees k is, refl, refl, refl), tt)

  -- the same, where there is room for it
  pub pushed_if : (room : Bool) (k : KnownDatabase) → IsKnownDatabase trees k → AreKnown trees (cond room (ks ++ without_indexes k ∷ []) ks)
  pushed_if true k is = pushed_known k is
  pushed_if false k is = known

-- without those of a name
module _ (name : List ℕ) (ks left : List KnownDatabase) (is : left ≡ filter (λ k. not (bytes_eq k.name name)) ks) where
  pub others_left : AllByRecursion (λ k. k.name ≢ name) left
  others_left =
      subst (AllByRecursion (λ k. k.name ≢ name)) (sym is)
      (all_weaker (λ (k : KnownDatabase). not (bytes_eq k.name name) ≡ true) (λ k. k.name ≢ name) (λ k passes same. away (bytes_eq k.name name) passes ((bytes_eq-Decides k.name name).1 same))
      (filter (λ k. not (bytes_eq k.name name)) ks) (passing (λ (k : KnownDatabase). not (bytes_eq k.name name)) ks))
    where
      away : (b : Bool) → not b ≡ true → b ≡ true → ⊥
      away true out here = absurd (cc)
      away false out here = absurd (cc)

  pub forgotten_known : (trees : Trees) → AreKnown trees ks → AreKnown trees left
  forgotten_known trees known = subst (AreKnown trees) (sym is) (all-filter (IsEarlier trees) (λ (k : KnownDatabase). not (bytes_eq k.name name)) ks known)
