-- The rows of the databases, where the one of a name becomes another of its number and its name.
use Rattle.tables.proofs.Common.{AllByRecursion, AreNumbered, Int, IsAscending, IsWellFormed, List, Row, Some, Trees, all_map, all_weaker, any_is_found, ap, arith, ascending-map, ascending_weaker, bytes_eq, cond_both, contents_in, database_row_at, database_of_row, dbs_tree, false, filter, filter-map, filter_same, has_number, if◌then◌else◌, inside, is_named, sequence_of_database, list_any, map, map-map, map_same, name_of, number_of, option_map, refl, rowid, same, same_int, slice_get, subst, subst₂, sym, true, ℕ, ℤ, ◌∙◌, ◌≡◌, ◌≢◌, ◌≤◌}
use Rattle.std.proofs.lemmas.Option.{slice_get-map}
use Rattle.std.specs.FinMap as finite
use Rattle.sqlite_keyed.proofs.KeyedLemmas.{IsKeyedBy-update_where, get_by-update_where, has_key-update_where}
use Rattle.store.specs.Database.{Database}
use Rattle.tables.proofs.Lookups.{at_number, one_changed, own_number}
use Rattle.tables.proofs.RowMaps.{find_passes, mapped_some}

module _ (n : ℤ) (f : Row → Row) (numbers : (r : Row) → number_of (f r) ≡ number_of r) (names : (r : Row) → name_of (f r) ≡ name_of r) where
  abbrev pub changed : Row → Row
  changed r = if has_number n r then f r else r

  name_kept : (r : Row) → name_of (changed r) ≡ name_of r
  name_kept r = elim (has_number n r) as (λ b. name_of (if b then f r else r) ≡ name_of r) [ true ↦ names r | false ↦ refl ]

  changed_own : (r : Row) → has_number n r ≡ true → changed r ≡ f r
  changed_own r own = ap (λ b. if b then f r else r) own

  -- ---- the layout

  pub all_changed : (P : Row → Type 0) → ((r : Row) → P r → P (f r)) → (rows : List Row) → AllByRecursion P rows → AllByRecursion P (map changed rows)
  all_changed P still rows all = all_map P changed rows (all_weaker P (λ r. P (changed r)) (λ r k. cond_both (has_number n r) (f r) r P (λ own. still r k) (λ out. k)) rows all)

  pub numbered_changed : ((r : Row) → rowid (f r) ≡ Int (number_of (f r))) → (rows : List Row) → AreNumbered rows → AreNumbered (map changed rows)
  numbered_changed own rows h = record {
    numbers = all_changed (λ r. rowid r ≡ Int (number_of r)) (λ r _. own r) rows h.numbers;
    rising = IsKeyedBy-update_where number_of (has_number n) f numbers rows h.rising;
  }

  pub names_changed : (rows : List Row) → IsAscending (λ a b. name_of a ≢ name_of b) rows → IsAscending (λ a b. name_of a ≢ name_of b) (map changed rows)
  names_changed rows apart =
      ascending-map (λ a b. name_of a ≢ name_of b) changed rows
      (ascending_weaker (λ a b. name_of a ≢ name_of b) (λ a b. name_of (changed a) ≢ name_of (changed b)) (λ a b h. subst₂ (λ x y. x ≢ y) (sym (name_kept a)) (sym (name_kept b)) h) rows apart)

  -- ---- what is found

  pub found_changed : (rows : List Row) (m : ℤ) → database_row_at (map changed rows) m ≡ option_map changed (database_row_at rows m)
  found_changed rows m = get_by-update_where number_of (has_number n) f numbers rows m

  pub number_stays : (rows : List Row) (m : ℤ) → list_any (has_number m) (map changed rows) ≡ list_any (has_number m) rows
  number_stays rows m = any_is_found (has_number m) (map changed rows) ∙ has_key-update_where number_of (has_number n) f numbers rows m ∙ sym (any_is_found (has_number m) rows)

module _ (trees : Trees) (h : IsWellFormed trees) (name : List ℕ) (d : Row) (is : slice_get (filter (is_named name) (trees dbs_tree)) 0 ≡ Some d)
    (f : Row → Row) (numbers : (r : Row) → number_of (f r) ≡ number_of r) (names : (r : Row) → name_of (f r) ≡ name_of r) where
  abbrev rows : List Row
  rows = map (changed (number_of d) f numbers names) (trees dbs_tree)

  changed_row : changed (number_of d) f numbers names d ≡ f d
  changed_row = changed_own (number_of d) f numbers names d (own_number d)

  pub named_changed : slice_get (filter (is_named name) rows) 0 ≡ Some (f d)
  named_changed =
      let one = changed (number_of d) f numbers names in
      ap (λ l. slice_get l 0)
      (filter-map (is_named name) one (trees dbs_tree) ∙ ap (map one) (filter_same (λ r. is_named name (one r)) (is_named name) (λ r. ap (λ k. bytes_eq k name) (name_kept (number_of d) f numbers names r)) (trees dbs_tree)))
      ∙ slice_get-map one (filter (is_named name) (trees dbs_tree)) 0 ∙ ap (option_map one) is ∙ ap Some changed_row

  -- the contents, where the databases of other rows are as they were
  pub contents_changed : (new : Trees) (x : Database) → new dbs_tree ≡ rows → database_of_row new (f d) ≡ x → ((r : Row) → has_number (number_of d) r ≡ false → database_of_row new r ≡ database_of_row trees r)
      → contents_in new ≡ finite.insert (contents_in trees) name x
  contents_changed new x same own others =
      let one = changed (number_of d) f numbers names in
      ap (λ l. finite.from_entries (map (λ r. (name_of r, database_of_row new r)) l)) same
      ∙ ap finite.from_entries (map-map (λ r. (name_of r, database_of_row new r)) one (trees dbs_tree)
      ∙ map_same _ (λ r. (name_of r, database_of_row new (one r))) (λ r. ap (λ k. (k, database_of_row new (one r))) (name_kept (number_of d) f numbers names r)) (trees dbs_tree))
      ∙ one_changed trees h name d is (λ r. database_of_row new (one r)) x (ap (database_of_row new) changed_row ∙ own) (λ r out. ap (λ b. database_of_row new (if b then f r else r)) out ∙ others r out)

  -- the row of its number is the changed one
  pub own_changed : (r : Row) → database_row_at rows (number_of d) ≡ Some r → r ≡ f d
  own_changed r now =
      inside r (f d) (sym now ∙ found_changed (number_of d) f numbers names (trees dbs_tree) (number_of d) ∙ ap (option_map (changed (number_of d) f numbers names)) (at_number trees h name d is) ∙ ap Some changed_row)

  -- where the length grows, no length falls
  pub longer : sequence_of_database d ≤ sequence_of_database (f d) → (m : ℤ) (r : Row) → database_row_at rows m ≡ Some r → (x : Row) × (database_row_at (trees dbs_tree) m ≡ Some x) × (sequence_of_database x ≤ sequence_of_database r)
  longer grows m r now =
      let x = mapped_some (changed (number_of d) f numbers names) (database_row_at (trees dbs_tree) m) r (sym (found_changed (number_of d) f numbers names (trees dbs_tree) m) ∙ now) in
      let low : sequence_of_database x.0 ≤ sequence_of_database (changed (number_of d) f numbers names x.0) =
      cond_both (has_number (number_of d) x.0) (f x.0) x.0 (λ y. sequence_of_database x.0 ≤ sequence_of_database y) (λ here.
      let own : m ≡ number_of d = sym (same_int (number_of x.0) m (find_passes (has_number m) (trees dbs_tree) x.0 x.1)) ∙ same_int (number_of x.0) (number_of d) here in
      let same : d ≡ x.0 = inside d x.0 (sym (at_number trees h name d is) ∙ ap (database_row_at (trees dbs_tree)) (sym own) ∙ x.1) in
      subst (λ (y : Row). sequence_of_database y ≤ sequence_of_database (f y)) same grows) (λ out. omega arith) in
      (x.0, x.1, subst (λ (y : Row). sequence_of_database x.0 ≤ sequence_of_database y) x.2 low)
