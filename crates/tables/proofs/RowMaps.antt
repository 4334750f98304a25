-- Maps that are made of rows, where each row gives one entry: its key and its value.
use Rattle.tables.proofs.Common.{AllByRecursion, Bool, Equal-is, FinMap, IsAntisymmetric, IsAscending, IsTotalOrder, List, None, Option, Ordering, Some, [], all-filter, all-slice_get, all_both, all_of, all_weaker, any_is_found, ap, ap₂, arith, both_ways, bytes_eq, cases_Bool, cond, cond_both, eq_by_cmp, eq_by_cmp_equiv, false, false_from_ne_true, filter, filter-filter, filter_none, filter_same, find, inl, inr, inside, is_eq, is_eq-slice_cmp, is_some, list_any, map, map-append, nat_cmp, nat_cmp-IsAntisymmetric, nat_list_cmp_total, nat_tests, not, not-true, not_from_false, option_map, refl, same, slice_cmp, slice_cmp-IsAntisymmetric, slice_get, slice_get-filter, subst, sym, true, ℕ, ◌&&◌, ◌++◌, ◌∙◌, ◌∷◌, ◌≡◌, ◌⊎◌}
use Rattle.std.specs.FinMap as finite

-- ---- lists

pub option_map-cond : {A B : Type 0} (f : A → B) (b : Bool) (x : A) (o : Option A) → option_map f (cond b (Some x) o) ≡ cond b (Some (f x)) (option_map f o)
option_map-cond f true x o = refl
option_map-cond f false x o = refl

pub mapped_some : {A B : Type 0} (f : A → B) (o : Option A) (y : B) → option_map f o ≡ Some y → (x : A) × (o ≡ Some x) × (f x ≡ y)
mapped_some f None y is = cc
mapped_some f (Some x) y is = (x, refl, (cc))

-- what holds of each element that passes holds of each that is left
pub all_passing : {A : Type 0} (P : A → Type 0) (p : A → Bool) (xs : List A) → AllByRecursion (λ x. p x ≡ true → P x) xs → AllByRecursion P (filter p xs)
all_passing P p [] all = tt
all_passing P p (x ∷ xs) all = cond_both (p x) _ _ (AllByRecursion P) (λ here. (all.0 here, all_passing P p xs all.1)) (λ out. all_passing P p xs all.1)

pub all_left : {A : Type 0} (P : A → Type 0) (p : A → Bool) (xs : List A) → AllByRecursion (λ x. p x ≡ false → P x) xs → AllByRecursion P (filter (λ x. not (p x)) xs)
all_left P p xs all = all_passing P (λ x. not (p x)) xs (all_weaker (λ x. p x ≡ false → P x) (λ x. not (p x) ≡ true → P x) (λ x h out. h (not-true (p x) out)) xs all)

pub passing : {A : Type 0} (p : A → Bool) (rows : List A) → AllByRecursion (λ r. p r ≡ true) (filter p rows)
passing p rows = all_passing (λ r. p r ≡ true) p rows (all_of (λ r. p r ≡ true → p r ≡ true) (λ r is. is) rows)

-- what is found passes, and is one of the rows
pub find_found : {A : Type 0} (P : A → Type 0) (p : A → Bool) (rows : List A) (r : A) → AllByRecursion P rows → find p rows ≡ Some r → P r × (p r ≡ true)
find_found P p rows r all is =
    all-slice_get (λ x. P x × (p x ≡ true)) (filter p rows) 0 r (slice_get-filter p rows ∙ is)
    (all_both P (λ x. p x ≡ true) (λ x. P x × (p x ≡ true)) (λ x k passes. (k, passes)) (filter p rows) (all-filter P p rows all) (passing p rows))

pub find_passes : {A : Type 0} (p : A → Bool) (rows : List A) (r : A) → find p rows ≡ Some r → p r ≡ true
find_passes p rows r is = all-slice_get (λ x. p x ≡ true) (filter p rows) 0 r (slice_get-filter p rows ∙ is) (passing p rows)

-- two tests one after the other
pub filter_both : {A : Type 0} (p q : A → Bool) (rows : List A) → filter p (filter q rows) ≡ filter (λ r. q r && p r) rows
filter_both p q [] = refl
filter_both p q (r ∷ rows) = elim (cases_Bool (q r)) [ inl is ↦ rw (is, filter_both p q rows) | inr is ↦ rw (is, filter_both p q rows) ]

-- without the rows that pass both tests: among those that pass the first, and among others
pub filter_left : {A : Type 0} (p q : A → Bool) (rows : List A) → filter p (filter (λ r. not (p r && q r)) rows) ≡ filter (λ r. not (q r)) (filter p rows)
filter_left p q rows =
    filter_both p (λ r. not (p r && q r)) rows ∙ filter_same (λ r. not (p r && q r) && p r) (λ r. p r && not (q r)) (λ r. grind (arith, nat_tests)) rows ∙ sym (filter_both (λ r. not (q r)) p rows)

pub filter_apart : {A : Type 0} (p q : A → Bool) → ((r : A) → p r ≡ true → q r ≡ false) → (rows : List A) → filter p (filter (λ r. not (q r)) rows) ≡ filter p rows
filter_apart p q apart = filter-filter p (λ r. not (q r)) (λ r passes. not_from_false (q r) (apart r passes))

pub find_apart : {A : Type 0} (p q : A → Bool) → ((r : A) → p r ≡ true → q r ≡ false) → (rows : List A) → find p (filter (λ r. not (q r)) rows) ≡ find p rows
find_apart p q apart rows = sym (slice_get-filter p (filter (λ r. not (q r)) rows)) ∙ ap (λ l. slice_get l 0) (filter_apart p q apart rows) ∙ slice_get-filter p rows

pub find_push : {A : Type 0} (p : A → Bool) (rows : List A) (new : A) → list_any p rows ≡ true → find p (rows ++ new ∷ []) ≡ find p rows
find_push p [] new any = absurd (cc)
find_push p (r ∷ rows) new any = grind (arith, nat_tests, find_push p rows new)

-- each row is the one that is found, or stands before it, or behind it
beside : {A : Type 0} (R : A → A → Type 0) (p : A → Bool) (w : A) (rows : List A) → IsAscending R rows → find p rows ≡ Some w → AllByRecursion (λ r. (r ≡ w) ⊎ (R r w ⊎ R w r)) rows
beside R p w [] up is = tt
beside R p w (r ∷ rows) up is = elim (cases_Bool (p r)) [
  | inl here ↦
      let same : r ≡ w = inside r w (rw here at is) in
      (inl same, all_weaker (R r) (λ s. (s ≡ w) ⊎ (R s w ⊎ R w s)) (λ s k. inr (inr (subst (λ x. R x s) same k))) rows up.0)
  | inr out ↦
      let later : find p rows ≡ Some w = rw out at is in
      (inr (inl (find_found (R r) p rows w up.0 later).0), beside R p w rows up.1 later)
]

-- where no two rows pass a test and the one that is found does, no other passes
only_passing : {A : Type 0} (p q : A → Bool) (w : A) (rows : List A) → IsAscending (λ a b. q a ≡ true → q b ≡ true → ⊥) rows → find p rows ≡ Some w → q w ≡ true → AllByRecursion (λ r. q r ≡ true → r ≡ w) rows
only_passing p q w rows apart is own =
    all_weaker (λ r. (r ≡ w) ⊎ ((q r ≡ true → q w ≡ true → ⊥) ⊎ (q w ≡ true → q r ≡ true → ⊥))) (λ r. q r ≡ true → r ≡ w)
    (λ r k passes. elim k [ inl same ↦ same | inr (inl before) ↦ absurd (before passes own) | inr (inr after) ↦ absurd (after own passes) ]) rows (beside (λ a b. q a ≡ true → q b ≡ true → ⊥) p w rows apart is)

pub only_found : {A : Type 0} (p : A → Bool) (w : A) (rows : List A) → IsAscending (λ a b. p a ≡ true → p b ≡ true → ⊥) rows → find p rows ≡ Some w → AllByRecursion (λ r. p r ≡ true → r ≡ w) rows
only_found p w rows apart is = only_passing p p w rows apart is (find_passes p rows w is)

-- two such tests that the same row passes are one test
pub one_test : {A : Type 0} (p q : A → Bool) (w : A) (rows : List A) → IsAscending (λ a b. p a ≡ true → p b ≡ true → ⊥) rows → IsAscending (λ a b. q a ≡ true → q b ≡ true → ⊥) rows
    → find p rows ≡ Some w → q w ≡ true → AllByRecursion (λ r. p r ≡ q r) rows
one_test p q w rows apart alone is passes =
    all_both (λ r. p r ≡ true → r ≡ w) (λ r. q r ≡ true → r ≡ w) (λ r. p r ≡ q r)
    (λ r one other. elim (cases_Bool (p r)) [
      | inl here ↦ here ∙ sym (ap q (one here) ∙ passes)
      | inr out ↦ out ∙ sym (false_from_ne_true (q r) (λ there. both_ways (p r) out (ap p (other there) ∙ find_passes p rows w is)))
    ]) rows (only_found p w rows apart is) (only_passing p q w rows alone is passes)

-- ---- maps

module _ {K : Type 0} {R : K → K → Ordering} (total : IsTotalOrder R) (exact : IsAntisymmetric R) where
  -- keys that differ don't tie
  pub untied : (q k : K) → (q ≡ k → ⊥) → is_eq (R q k) ≡ false
  untied q k apart = false_from_ne_true (is_eq (R q k)) (λ tied. apart (exact q k ((Equal-is (R q k)).0 tied)))

  -- what stands at a key does not matter to what is put in there
  pub insert_over : {X : Type 0} (m n : FinMap R X) (k : K) (x : X) → ((q : K) → eq_by_cmp R q k ≡ false → finite.get m q ≡ finite.get n q) → finite.insert m k x ≡ finite.insert n k x
  insert_over m n k x alike = finite.same_map total exact _ _ (λ q.
      finite.get-insert total m k x q
      ∙ elim (cases_Bool (eq_by_cmp R q k)) as (λ _. cond (eq_by_cmp R q k) (Some x) (finite.get m q) ≡ cond (eq_by_cmp R q k) (Some x) (finite.get n q)) [ inl ties ↦ rw ties | inr apart ↦ rw (alike q apart) ]
      ∙ sym (finite.get-insert total n k x q))

-- `at q` tells the rows of the key q
module _ {A K : Type 0} {R : K → K → Ordering} (total : IsTotalOrder R) (exact : IsAntisymmetric R) (key : A → K) (at : K → A → Bool) (tests : (q : K) (r : A) → eq_by_cmp R q (key r) ≡ at q r) where
  same_key : (q k : K) → eq_by_cmp R q k ≡ true → q ≡ k
  same_key q k is = exact q k ((Equal-is (R q k)).0 is)

  -- a row of the key k is none of another key
  at_other : (q k : K) (r : A) → eq_by_cmp R q k ≡ false → at k r ≡ true → at q r ≡ false
  at_other q k r apart is = sym (tests q r) ∙ ap (eq_by_cmp R q) (sym (same_key k (key r) (tests k r ∙ is))) ∙ apart

  none_kept : (k : K) (rows : List A) → AllByRecursion (λ r. at k r ≡ false) (filter (λ r. not (at k r)) rows)
  none_kept k rows = all_left (λ r. at k r ≡ false) (at k) rows (all_of (λ r. at k r ≡ false → at k r ≡ false) (λ r out. out) rows)

  module _ {X : Type 0} where
    abbrev entry : (A → X) → A → K × X
    entry value r = (key r, value r)

    abbrev rows_map : (A → X) → List A → FinMap R X
    rows_map value rows = finite.from_entries (map (λ r. (key r, value r)) rows)

    find_rows : (value : A → X) (rows : List A) (q : K) → finite.find R q (map (λ r. (key r, value r)) rows) ≡ option_map value (find (at q) rows)
    find_rows value [] q = refl
    find_rows value (r ∷ rows) q = ap₂ (λ b o. cond b (Some (value r)) o) (tests q r) (find_rows value rows q) ∙ sym (option_map-cond value (at q r) r (find (at q) rows))

    -- what stands at a key is the value of its first row
    pub get_rows : (value : A → X) (rows : List A) (q : K) → finite.get (rows_map value rows) q ≡ option_map value (find (at q) rows)
    get_rows value rows q = finite.get-from_entries total (map (λ r. (key r, value r)) rows) q ∙ find_rows value rows q

    pub get_filtered : (value : A → X) (rows : List A) (q : K) → finite.get (rows_map value rows) q ≡ option_map value (slice_get (filter (at q) rows) 0)
    get_filtered value rows q = get_rows value rows q ∙ ap (option_map value) (sym (slice_get-filter (at q) rows))

    -- ---- the same values

    pub rows_alike : (v w : A → X) (rows : List A) → AllByRecursion (λ r. v r ≡ w r) rows → rows_map v rows ≡ rows_map w rows
    rows_alike v w [] all = refl
    rows_alike v w (r ∷ rows) all = ap₂ (λ m x. finite.insert m (key r) x) (rows_alike v w rows all.1) all.0

    -- ---- one more row

    -- to put a row of a new key behind the others is to insert it
    pub rows_pushed : (value : A → X) (rows : List A) (new : A) → AllByRecursion (λ r. at (key new) r ≡ false) rows
        → rows_map value (rows ++ new ∷ []) ≡ finite.insert (rows_map value rows) (key new) (value new)
    rows_pushed value rows new fresh =
        ap finite.from_entries (map-append (entry value) rows (new ∷ []))
        ∙ finite.from_entries_push total exact (map (entry value) rows) (key new) (value new)
        (find_rows value rows (key new) ∙ ap (option_map value) (sym (slice_get-filter (at (key new)) rows) ∙ ap (λ l. slice_get l 0) (filter_none (at (key new)) rows fresh)))

    -- ---- without the rows of a key

    find_kept : (value : A → X) (k q : K) (rows : List A) → option_map value (find (at q) (filter (λ r. not (at k r)) rows)) ≡ cond (eq_by_cmp R q k) None (option_map value (find (at q) rows))
    find_kept value k q rows = elim (cases_Bool (eq_by_cmp R q k)) [
      | inl ties ↦ rw ties
          (ap (option_map value) (ap (λ (y : K). find (at y) (filter (λ r. not (at k r)) rows)) (same_key q k ties) ∙ sym (slice_get-filter (at k) (filter (λ r. not (at k r)) rows))
          ∙ ap (λ l. slice_get l 0) (filter_none (at k) (filter (λ r. not (at k r)) rows) (none_kept k rows))))
      | inr apart ↦ rw apart (ap (option_map value) (find_apart (at q) (at k) (λ r here. false_from_ne_true (at k r) (λ there. both_ways (at q r) (at_other q k r apart there) here)) rows))
    ]

    -- to take out the rows of a key is to remove it
    pub rows_removed : (value : A → X) (k : K) (rows : List A) → rows_map value (filter (λ r. not (at k r)) rows) ≡ finite.remove (rows_map value rows) k
    rows_removed value k rows = finite.same_map total exact _ _ (λ q.
        get_rows value (filter (λ r. not (at k r)) rows) q ∙ find_kept value k q rows
        ∙ sym (finite.get-remove total (rows_map value rows) k q ∙ ap (cond (eq_by_cmp R q k) None) (get_rows value rows q)))

    -- to put a row in the place of those of its key is to insert it, where the others keep their values
    pub rows_replaced : (v w : A → X) (rows : List A) (new : A) → AllByRecursion (λ r. at (key new) r ≡ false → v r ≡ w r) rows
        → rows_map v (filter (λ r. not (at (key new) r)) rows ++ new ∷ []) ≡ finite.insert (rows_map w rows) (key new) (v new)
    rows_replaced v w rows new others =
        let left : List A = filter (λ r. not (at (key new) r)) rows in
        rows_pushed v left new (none_kept (key new) rows)
        ∙ ap (λ m. finite.insert m (key new) (v new)) (rows_alike v w left (all_left (λ r. v r ≡ w r) (at (key new)) rows others) ∙ rows_removed w (key new) rows)
        ∙ insert_over total exact (finite.remove (rows_map w rows) (key new)) (rows_map w rows) (key new) (v new) (λ q apart. finite.get-remove total (rows_map w rows) (key new) q ∙ rw apart)

    -- ---- another value

    module _ (v w : A → X) (k : K) (x : X) where
      abbrev IsChanged : A → Type 0
      IsChanged r = (at k r ≡ true → w r ≡ x) × (at k r ≡ false → w r ≡ v r)

      found_changed : (q : K) (rows : List A) → AllByRecursion IsChanged rows → list_any (at k) rows ≡ true → (o : Option A) → find (at q) rows ≡ o → (b : Bool) → eq_by_cmp R q k ≡ b
          → option_map w o ≡ cond b (Some x) (option_map v o)
      found_changed q rows all any None none true ties =
          let there : false ≡ true = ap is_some (sym (ap (λ (y : K). find (at y) rows) (sym (same_key q k ties)) ∙ none)) ∙ sym (any_is_found (at k) rows) ∙ any in
          absurd (cc)
      found_changed q rows all any None none false apart = refl
      found_changed q rows all any (Some r) is true ties =
          let own = find_found IsChanged (at q) rows r all is in
          ap Some (own.0.0 (ap (λ (y : K). at y r) (sym (same_key q k ties)) ∙ own.1))
      found_changed q rows all any (Some r) is false apart =
          let own = find_found IsChanged (at q) rows r all is in
          ap Some (own.0.1 (false_from_ne_true (at k r) (λ here. both_ways (at q r) (at_other q k r apart here) own.1)))

      -- where the rows of a key have another value, it is inserted
      pub rows_changed : (rows : List A) → AllByRecursion IsChanged rows → list_any (at k) rows ≡ true → rows_map w rows ≡ finite.insert (rows_map v rows) k x
      rows_changed rows all any = finite.same_map total exact _ _ (λ q.
          get_rows w rows q ∙ found_changed q rows all any (find (at q) rows) refl (eq_by_cmp R q k) refl
          ∙ sym (finite.get-insert total (rows_map v rows) k x q ∙ ap (cond (eq_by_cmp R q k) (Some x)) (get_rows v rows q)))

-- ---- keys that are texts

pub text_exact : IsAntisymmetric (slice_cmp nat_cmp)
text_exact = slice_cmp-IsAntisymmetric nat_cmp-IsAntisymmetric

pub text_tests : {A : Type 0} (key : A → List ℕ) (q : List ℕ) (r : A) → eq_by_cmp (slice_cmp nat_cmp) q (key r) ≡ bytes_eq (key r) q
text_tests key q r = (eq_by_cmp_equiv nat_list_cmp_total).symm q (key r) ∙ is_eq-slice_cmp (key r) q
