-- Rows in an order: two orders that agree, what a filter leaves of sorted rows, and rows by their numbers.
use Rattle.tables.proofs.Common.{AllByRecursion, Bool, Equal, Greater, IsAscending, IsTotalOrder, Less, Less-from_lt, List, Ordering, Row, [], all-filter, all_both, all_weaker, ap, ap₂, cond, false, filter, insert_sorted, int_cmp, is_gt, number_of, ordering_reverse, refl, sort_by, sym, true, upto, ◌<ℤ◌, ◌∙◌, ◌∷◌, ◌≡◌}
use Rattle.tables.specs.Schema as tables

-- ---- two orders that agree on the rows sort them alike

pub all_inserted : (P : Row → Type 0) (cmp : Row → Row → Ordering) (new : Row) (rows : List Row) → P new → AllByRecursion P rows → AllByRecursion P (insert_sorted cmp new rows)
all_inserted P cmp new [] own all = (own, tt)
all_inserted P cmp new (r ∷ rows) own all =
    elim (is_gt (cmp new r)) as (λ b. AllByRecursion P (cond b (r ∷ insert_sorted cmp new rows) (new ∷ r ∷ rows))) [ true ↦ (all.0, all_inserted P cmp new rows own all.1) | false ↦ (own, all) ]

pub all_sorted : (P : Row → Type 0) (cmp : Row → Row → Ordering) (rows : List Row) → AllByRecursion P rows → AllByRecursion P (sort_by cmp rows)
all_sorted P cmp [] all = tt
all_sorted P cmp (r ∷ rows) all = all_inserted P cmp r (sort_by cmp rows) all.0 (all_sorted P cmp rows all.1)

module _ (P : Row → Type 0) (c d : Row → Row → Ordering) (agree : (a b : Row) → P a → P b → c a b ≡ d a b) where
  inserted_alike : (new : Row) (rows : List Row) → P new → AllByRecursion P rows → insert_sorted c new rows ≡ insert_sorted d new rows
  inserted_alike new [] own all = refl
  inserted_alike new (r ∷ rows) own all =
      ap₂ (λ o l. cond (is_gt o) (r ∷ l) (new ∷ r ∷ rows)) (agree new r own all.0) (inserted_alike new rows own all.1)

  pub sorted_alike : (rows : List Row) → AllByRecursion P rows → sort_by c rows ≡ sort_by d rows
  sorted_alike [] all = refl
  sorted_alike (r ∷ rows) all =
      ap (insert_sorted c r) (sorted_alike rows all.1) ∙ inserted_alike r (sort_by d rows) all.0 (all_sorted P d rows all.1)

pub both_in : (P : Row → Type 0) (R S : Row → Row → Type 0) → ((a b : Row) → P a → P b → R a b → S a b) → (rows : List Row) → AllByRecursion P rows → IsAscending R rows → IsAscending S rows
both_in P R S weaker [] all up = tt
both_in P R S weaker (r ∷ rows) all up = (all_both P (R r) (S r) (λ x own over. weaker r x all.0 own over) rows all.1 up.0, both_in P R S weaker rows all.1 up.1)

-- ---- the rows of a kind, of sorted rows, are those of a kind, sorted

module _ (cmp : Row → Row → Ordering) (total : IsTotalOrder cmp) where
  abbrev pub AtMost : Row → Row → Type 0
  AtMost a b = is_gt (cmp a b) ≡ false

  risen : (new : Row) (rows : List Row) → IsAscending AtMost rows → IsAscending AtMost (insert_sorted cmp new rows)
  risen new [] up = (tt, tt)
  risen new (r ∷ rows) up = go (cmp new r) refl (risen new rows up.1)
    where
      go : (o : Ordering) → cmp new r ≡ o → IsAscending AtMost (insert_sorted cmp new rows) → IsAscending AtMost (cond (is_gt o) (r ∷ insert_sorted cmp new rows) (new ∷ r ∷ rows))
      go Greater e more = (all_inserted (AtMost r) cmp new rows (ap is_gt (total.antisymm r new ∙ ap ordering_reverse e)) up.0, more)
      go Less e more = ((ap is_gt e, all_weaker (AtMost r) (AtMost new) (λ z. upto total new r z (ap is_gt e)) rows up.0), up)
      go Equal e more = ((ap is_gt e, all_weaker (AtMost r) (AtMost new) (λ z. upto total new r z (ap is_gt e)) rows up.0), up)

  pub rises : (rows : List Row) → IsAscending AtMost (sort_by cmp rows)
  rises [] = tt
  rises (r ∷ rows) = risen r (sort_by cmp rows) (rises rows)

  put_first : (new : Row) (rows : List Row) → AllByRecursion (AtMost new) rows → insert_sorted cmp new rows ≡ new ∷ rows
  put_first new [] all = refl
  put_first new (r ∷ rows) all = ap (λ b. cond b (r ∷ insert_sorted cmp new rows) (new ∷ r ∷ rows)) all.0

  module _ (p : Row → Bool) where
    later : (new r : Row) (rows : List Row) (own : Bool) → is_gt (cmp new r) ≡ true → (b : Bool)
        → filter p (insert_sorted cmp new rows) ≡ cond own (insert_sorted cmp new (filter p rows)) (filter p rows)
        → cond b (r ∷ filter p (insert_sorted cmp new rows)) (filter p (insert_sorted cmp new rows))
        ≡ cond own (insert_sorted cmp new (cond b (r ∷ filter p rows) (filter p rows))) (cond b (r ∷ filter p rows) (filter p rows))
    later new r rows own gt false more = more
    later new r rows true gt true more = ap (λ l. r ∷ l) more ∙ sym (ap (λ c. cond c (r ∷ insert_sorted cmp new (filter p rows)) (new ∷ r ∷ filter p rows)) gt)
    later new r rows false gt true more = ap (λ l. r ∷ l) more

    put_left : (new : Row) (rows : List Row) → IsAscending AtMost rows → filter p (insert_sorted cmp new rows) ≡ cond (p new) (insert_sorted cmp new (filter p rows)) (filter p rows)
    put_left new [] up = refl
    put_left new (r ∷ rows) up = go (is_gt (cmp new r)) refl (put_left new rows up.1)
      where
        go : (b : Bool) → is_gt (cmp new r) ≡ b → filter p (insert_sorted cmp new rows) ≡ cond (p new) (insert_sorted cmp new (filter p rows)) (filter p rows)
            → filter p (cond b (r ∷ insert_sorted cmp new rows) (new ∷ r ∷ rows)) ≡ cond (p new) (insert_sorted cmp new (filter p (r ∷ rows))) (filter p (r ∷ rows))
        go true e more = later new r rows (p new) e (p r) more
        go false e more =
            ap (λ l. cond (p new) l (filter p (r ∷ rows)))
            (sym (put_first new (filter p (r ∷ rows)) (all-filter (AtMost new) p (r ∷ rows) (e, all_weaker (AtMost r) (AtMost new) (λ z. upto total new r z e) rows up.0))))

    pub sorted_left : (rows : List Row) → filter p (sort_by cmp rows) ≡ sort_by cmp (filter p rows)
    sorted_left [] = refl
    sorted_left (r ∷ rows) =
        put_left r (sort_by cmp rows) (rises rows) ∙ ap (λ l. cond (p r) (insert_sorted cmp r l) l) (sorted_left rows)
        ∙ elim (p r) as (λ b. cond b (insert_sorted cmp r (sort_by cmp (filter p rows))) (sort_by cmp (filter p rows)) ≡ sort_by cmp (cond b (r ∷ filter p rows) (filter p rows))) [ true ↦ refl | false ↦ refl ]

-- ---- rows by their numbers, which rise

abbrev pub by_their_numbers : Row → Row → Ordering
by_their_numbers a b = int_cmp (number_of a) (number_of b)

stays_first : (r : Row) (rows : List Row) → AllByRecursion (λ b. number_of r <ℤ number_of b) rows → insert_sorted by_their_numbers r rows ≡ r ∷ rows
stays_first r [] above = refl
stays_first r (s ∷ rows) above = ap (λ o. cond (is_gt o) (s ∷ insert_sorted by_their_numbers r rows) (r ∷ s ∷ rows)) (Less-from_lt (number_of r) (number_of s) above.0)

pub sorted_already : (rows : List Row) → IsAscending (λ a b. number_of a <ℤ number_of b) rows → sort_by by_their_numbers rows ≡ rows
sorted_already [] up = refl
sorted_already (r ∷ rows) up = ap (insert_sorted by_their_numbers r) (sorted_already rows up.1) ∙ stays_first r rows up.0
