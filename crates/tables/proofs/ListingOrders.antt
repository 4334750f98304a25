-- The entries of a map that is made of rows, in the order of their keys.
use Rattle.tables.proofs.Common.{AllByRecursion, Bool, Equal-is, FinMap, IsAntisymmetric, IsAscending, IsTotalOrder, List, Option, Ordering, Row, Some, [], all_weaker, ap, ap₂, both_ways, cond, cond_both, eq_by_cmp, false, filter, insert_sorted, is_eq, is_gt, map, refl, sort_by, sym, true, ◌∙◌, ◌∷◌, ◌≡◌}
use Rattle.std.specs.declared.cmp.Ordering.TheVariants.{Less, Equal, Greater}
use Rattle.std.specs.FinMap as finite
use Rattle.std.specs.FinMap.Entries.{by_order}
use Rattle.store.proofs.PageStructs.{no_length}
use Rattle.tables.proofs.RowMaps.{all_passing}
use Rattle.tables.proofs.Sorted.{all_sorted}

-- ---- rows by a key

module _ {K X : Type 0} {R : K → K → Ordering} (total : IsTotalOrder R) (exact : IsAntisymmetric R) (key : Row → K) (value : Row → X) where
  abbrev pub IsApart : Row → Row → Type 0
  IsApart a b = is_eq (R (key a) (key b)) ≡ false

  abbrev pub map_of : List Row → FinMap R X
  map_of rows = finite.from_entries (map (λ s. (key s, value s)) rows)

  put_inserted : (r : Row) (rows : List Row) → AllByRecursion (IsApart r) rows
      → finite.put R (key r) (value r) (map (λ s. (key s, value s)) rows) ≡ map (λ s. (key s, value s)) (insert_sorted (λ a b. R (key a) (key b)) r rows)
  put_inserted r [] apart = refl
  put_inserted r (s ∷ rows) apart = go (R (key r) (key s)) apart.0 (put_inserted r rows apart.1)
    where
      go : (o : Ordering) → is_eq o ≡ false → finite.put R (key r) (value r) (map (λ t. (key t, value t)) rows) ≡ map (λ t. (key t, value t)) (insert_sorted (λ a b. R (key a) (key b)) r rows)
          → by_order o ((key r, value r) ∷ (key s, value s) ∷ map (λ t. (key t, value t)) rows) ((key s, value r) ∷ map (λ t. (key t, value t)) rows) ((key s, value s) ∷ finite.put R (key r) (value r) (map (λ t. (key t, value t)) rows))
          ≡ map (λ t. (key t, value t)) (cond (is_gt o) (s ∷ insert_sorted (λ a b. R (key a) (key b)) r rows) (r ∷ s ∷ rows))
      go Less apart more = refl
      go Equal apart more = absurd (cc)
      go Greater apart more = ap (λ l. (key s, value s) ∷ l) more

  -- where no two rows have the same key, the entries are the rows by their keys
  pub entries_by_key : (rows : List Row) → IsAscending IsApart rows → finite.entries (map_of rows) ≡ map (λ s. (key s, value s)) (sort_by (λ a b. R (key a) (key b)) rows)
  entries_by_key [] apart = no_length _ (sym (finite.len-entries {R = R} (finite.empty {X = X})) ∙ finite.len-empty R X)
  entries_by_key (r ∷ rows) apart =
      finite.entries-insert total (map_of rows) (key r) (value r) ∙ ap (finite.put R (key r) (value r)) (entries_by_key rows apart.1)
      ∙ put_inserted r (sort_by (λ a b. R (key a) (key b)) rows) (all_sorted (IsApart r) (λ a b. R (key a) (key b)) rows apart.0)

  swapped : (m : FinMap R X) (a b : Row) → IsApart a b
      → finite.insert (finite.insert m (key a) (value a)) (key b) (value b) ≡ finite.insert (finite.insert m (key b) (value b)) (key a) (value a)
  swapped m a b apart = finite.same_map total exact _ _ (λ q. twice m a b q ∙ either q (finite.get m q) (eq_by_cmp R q (key a)) refl (eq_by_cmp R q (key b)) refl ∙ sym (twice m b a q))
    where
      twice : (n : FinMap R X) (c d : Row) (q : K)
          → finite.get (finite.insert (finite.insert n (key c) (value c)) (key d) (value d)) q ≡ cond (eq_by_cmp R q (key d)) (Some (value d)) (cond (eq_by_cmp R q (key c)) (Some (value c)) (finite.get n q))
      twice n c d q = finite.get-insert total (finite.insert n (key c) (value c)) (key d) (value d) q ∙ ap (cond (eq_by_cmp R q (key d)) (Some (value d))) (finite.get-insert total n (key c) (value c) q)

      either : (q : K) (o : Option X) (x : Bool) → eq_by_cmp R q (key a) ≡ x → (y : Bool) → eq_by_cmp R q (key b) ≡ y
          → cond (eq_by_cmp R q (key b)) (Some (value b)) (cond (eq_by_cmp R q (key a)) (Some (value a)) o) ≡ cond (eq_by_cmp R q (key a)) (Some (value a)) (cond (eq_by_cmp R q (key b)) (Some (value b)) o)
      either q o true one true two =
          let same : q ≡ key a = exact q (key a) ((Equal-is (R q (key a))).0 one) in
          absurd (both_ways (is_eq (R (key a) (key b))) apart (ap (λ (k : K). is_eq (R k (key b))) (sym same) ∙ two))
      either q o true one false two = ap₂ (λ x y. cond y (Some (value b)) (cond x (Some (value a)) o)) one two ∙ sym (ap₂ (λ x y. cond x (Some (value a)) (cond y (Some (value b)) o)) one two)
      either q o false one y two =
          ap (λ x. cond (eq_by_cmp R q (key b)) (Some (value b)) (cond x (Some (value a)) o)) one
          ∙ sym (ap (λ x. cond x (Some (value a)) (cond (eq_by_cmp R q (key b)) (Some (value b)) o)) one)

  -- the order of such rows doesn't matter
  module _ (by : Row → Row → Ordering) where
    map_inserted : (r : Row) (rows : List Row) → AllByRecursion (IsApart r) rows → map_of (insert_sorted by r rows) ≡ map_of (r ∷ rows)
    map_inserted r [] apart = refl
    map_inserted r (s ∷ rows) apart = go (is_gt (by r s)) (map_inserted r rows apart.1)
      where
        go : (b : Bool) → map_of (insert_sorted by r rows) ≡ map_of (r ∷ rows) → map_of (cond b (s ∷ insert_sorted by r rows) (r ∷ s ∷ rows)) ≡ map_of (r ∷ s ∷ rows)
        go true more = ap (λ m. finite.insert m (key s) (value s)) more ∙ swapped (map_of rows) r s apart.0
        go false more = refl

    pub map_sorted : (rows : List Row) → IsAscending IsApart rows → map_of (sort_by by rows) ≡ map_of rows
    map_sorted [] apart = refl
    map_sorted (r ∷ rows) apart = map_inserted r (sort_by by rows) (all_sorted (IsApart r) by rows apart.0) ∙ ap (λ m. finite.insert m (key r) (value r)) (map_sorted rows apart.1)

-- what holds of any two rows that pass
pub ascending_within : (p : Row → Bool) (S : Row → Row → Type 0) (rows : List Row) → IsAscending (λ a b. p a ≡ true → p b ≡ true → S a b) rows → IsAscending S (filter p rows)
ascending_within p S [] up = tt
ascending_within p S (r ∷ rows) up =
    cond_both (p r) _ _ (IsAscending S)
    (λ is. (all_passing (S r) p rows (all_weaker (λ s. p r ≡ true → p s ≡ true → S r s) (λ s. p s ≡ true → S r s) (λ s k. k is) rows up.0), ascending_within p S rows up.1))
    (λ is. ascending_within p S rows up.1)
