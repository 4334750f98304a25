-- What the tables answer by name and by id is what the databases that they hold have there.
use Rattle.tables.proofs.Common.{AllByRecursion, Decides-int_eq, IsDatabaseNumber, IsWellFormed, IsRevisionRow, List, None, Option, Row, Some, Trees, [], all_both, all_weaker, any_is_found, ap, ap₂, ascending_weaker, both_ways, by_name, bytes_eq, contents_in, database_row_at, database_of_row, dbs_tree, docs_tree, document_of_row, entry_of, false, false_from_ne_true, filter, filter_none, find, has_number, history_in_rows, id_of, is_eq, is_row_of_database, is_named, is_row_of_document, is_some, list_any, local_of, locals_tree, map, map-map, name_of, nat_cmp, nat_list_cmp_total, number_of, option_map, refl, revision_of_row, revs_tree, slice_cmp, slice_get, slice_get-filter, sort_by, subst₂, sym, true, ℕ, ℤ, ◌∙◌, ◌∷◌, ◌≡◌, ◌⊎◌}
use Rattle.std.specs.FinMap as finite
use Rattle.store.specs.Database as store
use Rattle.store.specs.Database.{Database}
use Rattle.tables.proofs.ListingOrders.{entries_by_key}
use Rattle.sqlite_trees.proofs.ListLemmas.{filter_same as filter_on}
use Rattle.tables.proofs.RowMaps.{filter_both, find_passes, get_filtered, one_test, only_found, rows_changed, text_exact, text_tests, untied}
use Rattle.tables.proofs.Single.{few}
use Rattle.tables.proofs.Tables.{of_these, one_named, one_numbered}

-- ---- databases by name

pub database_found : (trees : Trees) (name : List ℕ) → finite.get (contents_in trees) name ≡ option_map (database_of_row trees) (slice_get (filter (is_named name) (trees dbs_tree)) 0)
database_found trees name = get_filtered nat_list_cmp_total text_exact name_of (λ q r. bytes_eq (name_of r) q) (text_tests name_of) (database_of_row trees) (trees dbs_tree) name

pub one_database : (trees : Trees) (name : List ℕ) → IsWellFormed trees → (filter (is_named name) (trees dbs_tree) ≡ []) ⊎ ((d : Row) × (filter (is_named name) (trees dbs_tree) ≡ d ∷ []))
one_database trees name h = few (is_named name) (trees dbs_tree) (one_named (trees dbs_tree) h.names_apart name)

-- ---- documents and local documents by id

-- the value at an id among the rows of a database
pub get_id : (db : ℤ) (id : List ℕ) {X : Type 0} (value : Row → X) (rows : List Row)
    → finite.get {R = slice_cmp nat_cmp} (finite.from_entries (map (λ r. (id_of r, value r)) (filter (is_row_of_database db) rows))) id ≡ option_map value (slice_get (filter (is_row_of_document db id) rows) 0)
get_id db id value rows =
    get_filtered nat_list_cmp_total text_exact id_of (λ q r. bytes_eq (id_of r) q) (text_tests id_of) value (filter (is_row_of_database db) rows) id
    ∙ ap (λ l. option_map value (slice_get l 0)) (filter_both (λ r. bytes_eq (id_of r) id) (is_row_of_database db) rows)

pub local_found : (trees : Trees) (d : Row) (id : List ℕ) → finite.get (database_of_row trees d).locals id ≡ option_map local_of (slice_get (filter (is_row_of_document (number_of d) id) (trees locals_tree)) 0)
local_found trees d id = get_id (number_of d) id local_of (trees locals_tree)

module _ (trees : Trees) (db : ℤ) (id : List ℕ) where
  -- where no row of a document is of the id, no row of a revision is
  pub unwritten : IsWellFormed trees → find (is_row_of_document db id) (trees docs_tree) ≡ None → history_in_rows (trees revs_tree) db id ≡ finite.empty
  unwritten h none =
      ap (λ l. finite.from_entries (map (λ r. (revision_of_row r, entry_of r)) l))
      (filter_none (is_row_of_document db id) (trees revs_tree) (all_weaker (IsRevisionRow trees) (λ r. is_row_of_document db id r ≡ false) (λ r k. false_from_ne_true (is_row_of_document db id r) (λ is.
      let own = of_these db id r is in
      both_ways (list_any (is_row_of_document db id) (trees docs_tree)) (any_is_found (is_row_of_document db id) (trees docs_tree) ∙ ap is_some none) (subst₂ (λ (n : ℤ) (i : List ℕ). list_any (is_row_of_document n i) (trees docs_tree) ≡ true) own.0 own.1 k.there)))
      (trees revs_tree) h.revs))

  history_by : IsWellFormed trees → (o : Option Row) → find (is_row_of_document db id) (trees docs_tree) ≡ o → store.history_in (option_map (document_of_row (trees revs_tree)) o) ≡ history_in_rows (trees revs_tree) db id
  history_by h None is = sym (unwritten h is)
  history_by h (Some r) is =
      let own = of_these db id r (find_passes (is_row_of_document db id) (trees docs_tree) r is) in
      ap₂ (λ (n : ℤ) (k : List ℕ). history_in_rows (trees revs_tree) n k) own.0 own.1

pub document_found : (trees : Trees) (d : Row) (id : List ℕ) → IsWellFormed trees → store.history_at (database_of_row trees d) id ≡ history_in_rows (trees revs_tree) (number_of d) id
document_found trees d id h =
    ap store.history_in (get_id (number_of d) id (document_of_row (trees revs_tree)) (trees docs_tree) ∙ ap (option_map (document_of_row (trees revs_tree))) (slice_get-filter (is_row_of_document (number_of d) id) (trees docs_tree)))
    ∙ history_by trees (number_of d) id h (find (is_row_of_document (number_of d) id) (trees docs_tree)) refl

-- ---- names in order

pub names_found : (trees : Trees) → IsWellFormed trees → finite.keys (contents_in trees) ≡ map name_of (sort_by by_name (trees dbs_tree))
names_found trees h =
    ap (map (λ e. e.0))
    (entries_by_key nat_list_cmp_total text_exact name_of (database_of_row trees) (trees dbs_tree)
    (ascending_weaker _ (λ a b. is_eq (by_name a b) ≡ false) (λ a b. untied nat_list_cmp_total text_exact (name_of a) (name_of b)) (trees dbs_tree) h.names_apart))
    ∙ map-map (λ (e : List ℕ × _). e.0) (λ s. (name_of s, database_of_row trees s)) (sort_by by_name (trees dbs_tree))

-- ---- the row of a name

pub own_number : (r : Row) → has_number (number_of r) r ≡ true
own_number r = (Decides-int_eq (number_of r) (number_of r)).1 refl

module _ (trees : Trees) (h : IsWellFormed trees) (name : List ℕ) (d : Row) (is : slice_get (filter (is_named name) (trees dbs_tree)) 0 ≡ Some d) where
  named_row : find (is_named name) (trees dbs_tree) ≡ Some d
  named_row = sym (slice_get-filter (is_named name) (trees dbs_tree)) ∙ is

  -- no other row has its name
  only_named : AllByRecursion (λ r. is_named name r ≡ true → r ≡ d) (trees dbs_tree)
  only_named = only_found (is_named name) d (trees dbs_tree) (one_named (trees dbs_tree) h.names_apart name) named_row

  -- the rows of its name are those of its number
  pub by_number : AllByRecursion (λ r. is_named name r ≡ has_number (number_of d) r) (trees dbs_tree)
  by_number =
      one_test (is_named name) (has_number (number_of d)) d (trees dbs_tree) (one_named (trees dbs_tree) h.names_apart name)
      (one_numbered (trees dbs_tree) h.dbs_numbered.rising (number_of d)) named_row (own_number d)

  name_there : list_any (is_named name) (trees dbs_tree) ≡ true
  name_there = any_is_found (is_named name) (trees dbs_tree) ∙ ap is_some named_row

  pub at_number : database_row_at (trees dbs_tree) (number_of d) ≡ Some d
  at_number =
      sym (slice_get-filter (has_number (number_of d)) (trees dbs_tree)) ∙ ap (λ l. slice_get l 0) (sym (filter_on (is_named name) (has_number (number_of d)) (trees dbs_tree) by_number)) ∙ is

  pub number_there : IsDatabaseNumber trees (number_of d)
  number_there = any_is_found (has_number (number_of d)) (trees dbs_tree) ∙ ap is_some at_number

  pub database_there : finite.get (contents_in trees) name ≡ Some (database_of_row trees d)
  database_there = database_found trees name ∙ ap (option_map (database_of_row trees)) is

  -- the contents, where the databases of other rows are as they were
  pub one_changed : (w : Row → Database) (x : Database) → w d ≡ x → ((r : Row) → has_number (number_of d) r ≡ false → w r ≡ database_of_row trees r)
      → finite.from_entries {R = slice_cmp nat_cmp} (map (λ r. (name_of r, w r)) (trees dbs_tree)) ≡ finite.insert (contents_in trees) name x
  one_changed w x own others =
      rows_changed nat_list_cmp_total text_exact name_of (λ q r. bytes_eq (name_of r) q) (text_tests name_of) (database_of_row trees) w name x (trees dbs_tree)
      (all_both (λ r. is_named name r ≡ true → r ≡ d) (λ r. is_named name r ≡ has_number (number_of d) r)
      (λ r. (is_named name r ≡ true → w r ≡ x) × (is_named name r ≡ false → w r ≡ database_of_row trees r))
      (λ r only same. (λ here. ap w (only here) ∙ own, λ away. others r (sym same ∙ away))) (trees dbs_tree) only_named by_number) name_there
