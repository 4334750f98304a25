-- The history that the rows of a document's revisions make, in whatever order a query shows them.
use Rattle.transactions.proofs.Common.{Some, cond, false, AllByRecursion, Bool, Coded-set, Entry, HistoryContent, IsAscending, IsWellFormed, IsPermutation, IsPermutation-filter, IsShownRevision, List, None, Option, Revision, Row, Trees, all-filter, all_map, ap, coded_option, content_code, db_of, entry_of, entry_shown, eq_by_cmp, filter, held_shown, history_in_rows, history_shown, id_of, is_row_of_document, map, map-map, option_map, parent_shown, refl, revision_cmp, revision_cmp_exact, revision_cmp_total, revision_of_row, revision_shown, revs_tree, entry_of_row, rows_make, shown_revision, slice_get, subst, sym, true, ℕ, ℤ, ◌∙◌, ◌≡◌, ◌≢◌}
use Rattle.std.proofs.lemmas.List.{map-id}
use Rattle.std.specs.FinMap as finite
use Rattle.couch_json.specs.Value.{null}
use Rattle.sqlite_value.specs.Order.{column}
use Rattle.sqlite_keyed.proofs.ListLemmas.{ascending-map, ascending_weaker, map_same}
use Rattle.sqlite_trees.proofs.ListLemmas.{all-permutation}
use Rattle.tables.proofs.Laid.{shown_outlines, shown_revisions}
use Rattle.tables.proofs.ListingOrders.{ascending_within}
use Rattle.tables.proofs.RowMaps.{get_filtered}
use Rattle.tables.proofs.Single.{HasOneAtMost, one_order}
use Rattle.tables.proofs.Tables.{of_these}
use Rattle.tables.specs.Rows.{count_in_cell, is_set, json_in_cell, parent_in, shown_outline}
use Rattle.tables.specs.Shown.{IsShownOutline}
use Rattle.transactions.specs.Reading.{node_shown, outline_shown}
use Rattle.tree.specs.Outline.{bare, outline_of}
use Rattle.tree.proofs.Outlines.{find_bare, get_outline}
use Rattle.tree.proofs.Revisions.{same}

-- no two rows are of one revision
abbrev pub AreApart : List Row → Type 0
AreApart rows = IsAscending (λ a b. db_of a ≡ db_of b → id_of a ≡ id_of b → revision_of_row a ≢ revision_of_row b) rows

-- the rows of a revision, as they are shown
abbrev at : Revision → Row → Bool
at q s = eq_by_cmp revision_cmp q (revision_shown s)

-- what is shown of each row names its revision, and has a value
module _ (show : Row → Row) (value : Row → Entry) (named : (r : Row) → revision_shown (show r) ≡ revision_of_row r) where
  abbrev entry_as_shown : Row → Revision × Entry
  entry_as_shown s = (revision_shown s, value s)

  one_shown : (db : ℤ) (id : List ℕ) (rows : List Row) → AreApart rows → (q : Revision) → HasOneAtMost (at q) (map show (filter (is_row_of_document db id) rows))
  one_shown db id rows h q =
      ascending-map (λ a b. at q a ≡ true → at q b ≡ true → ⊥) show (filter (is_row_of_document db id) rows)
      (ascending_within (is_row_of_document db id) (λ a b. at q (show a) ≡ true → at q (show b) ≡ true → ⊥) rows
      (ascending_weaker (λ a b. db_of a ≡ db_of b → id_of a ≡ id_of b → revision_of_row a ≢ revision_of_row b) (λ a b. is_row_of_document db id a ≡ true → is_row_of_document db id b ≡ true → at q (show a) ≡ true → at q (show b) ≡ true → ⊥)
      (λ a b apart of_a of_b at_a at_b.
      let x = of_these db id a of_a in
      let y = of_these db id b of_b in
      apart (x.0 ∙ sym y.0) (x.1 ∙ sym y.1) (sym (named a) ∙ sym (same q (revision_shown (show a)) at_a) ∙ same q (revision_shown (show b)) at_b ∙ named b)) rows h))

  -- what stands at a revision, whatever the order
  shown_at : (q : Revision) (rows : List Row) → finite.find revision_cmp q (map entry_as_shown rows) ≡ option_map value (slice_get (filter (at q) rows) 0)
  shown_at q rows =
      sym (finite.get-from_entries revision_cmp_total (map entry_as_shown rows) q)
      ∙ get_filtered revision_cmp_total revision_cmp_exact revision_shown at (λ q s. refl) value rows q

  same_order : (q : Revision) (xs ys : List Row) → HasOneAtMost (at q) xs → IsPermutation xs ys → filter (at q) ys ≡ filter (at q) xs
  same_order q xs ys one same =
      one_order (λ r. r) (at q) xs (filter (at q) ys) one (subst (λ l. IsPermutation l (filter (at q) ys)) (sym (map-id (filter (at q) xs))) (IsPermutation-filter (at q) xs ys same)) ∙ map-id (filter (at q) xs)

  abbrev as_shown : Row → Revision × Entry
  as_shown r = (revision_shown (show r), value (show r))

  abbrev as_named : Row → Revision × Entry
  as_named r = (revision_of_row r, value (show r))

  named_values : (rows : List Row) → map as_shown rows ≡ map as_named rows
  named_values rows = map_same as_shown as_named (λ r i. (named r i, value (show r))) rows

  found : (trees : Trees) (db : ℤ) (id : List ℕ) (rows : List Row) → AreApart (trees revs_tree) → IsPermutation (map show (filter (is_row_of_document db id) (trees revs_tree))) rows → (q : Revision)
      → finite.find revision_cmp q (map entry_as_shown rows) ≡ finite.find revision_cmp q (map as_named (filter (is_row_of_document db id) (trees revs_tree)))
  found trees db id rows apart same q =
      let F = filter (is_row_of_document db id) (trees revs_tree) in
      shown_at q rows ∙ ap (λ k. option_map value (slice_get k 0)) (same_order q (map show F) rows (one_shown db id (trees revs_tree) apart q) same)
      ∙ sym (shown_at q (map show F)) ∙ ap (finite.find revision_cmp q) (map-map entry_as_shown show F ∙ named_values F)

abbrev known_entry : Row → Revision × Entry
known_entry r = (revision_of_row r, entry_of r)

kept : (trees : Trees) (db : ℤ) (id : List ℕ) (q : Revision) → finite.get (history_in_rows (trees revs_tree) db id) q ≡ finite.find revision_cmp q (map known_entry (filter (is_row_of_document db id) (trees revs_tree)))
kept trees db id q = finite.get-from_entries revision_cmp_total (map known_entry (filter (is_row_of_document db id) (trees revs_tree))) q

pub history_apart : (trees : Trees) (db : ℤ) (id : List ℕ) (rows : List Row) → AreApart (trees revs_tree) → IsPermutation (map shown_revision (filter (is_row_of_document db id) (trees revs_tree))) rows → history_shown rows ≡ history_in_rows (trees revs_tree) db id
history_apart trees db id rows apart same =
    rows_make (history_in_rows (trees revs_tree) db id) (map entry_shown rows)
    (λ q. found shown_revision (λ s. entry_of_row (parent_shown s) (held_shown s)) (λ r. refl) trees db id rows apart same q ∙ sym (kept trees db id q))

pub history_made : (trees : Trees) (db : ℤ) (id : List ℕ) (rows : List Row) → IsWellFormed trees → IsPermutation (map shown_revision (filter (is_row_of_document db id) (trees revs_tree))) rows → history_shown rows ≡ history_in_rows (trees revs_tree) db id
history_made trees db id rows l same = history_apart trees db id rows l.revisions_apart same

abbrev known_node : Row → Revision × Entry
known_node r = (revision_of_row r, (node_shown (shown_outline r)).1)

abbrev bare_entry : Row → Revision × Entry
bare_entry r = (revision_of_row r, bare (entry_of r))

-- what is shown of a row without the body is what is known of its revision, without it
bare_is : (r : Row) → (node_shown (shown_outline r)).1 ≡ bare (entry_of r)
bare_is r = by (is_set (column r 6))
  where
    by : (b : Bool) → entry_of_row (parent_in (count_in_cell (column r 3)) (column r 5)) (option_map (λ deleted. (deleted, null)) (cond b (Some (is_set (column r 7))) None))
        ≡ bare (entry_of_row (parent_in (count_in_cell (column r 3)) (column r 5)) (cond b (Some (is_set (column r 7), json_in_cell (column r 8))) None))
    by true = refl
    by false = refl

pub outline_made : (trees : Trees) (db : ℤ) (id : List ℕ) (rows : List Row) → IsWellFormed trees → IsPermutation (map shown_outline (filter (is_row_of_document db id) (trees revs_tree))) rows → outline_shown rows ≡ outline_of (history_in_rows (trees revs_tree) db id)
outline_made trees db id rows l same =
    let F = filter (is_row_of_document db id) (trees revs_tree) in
    rows_make (outline_of (history_in_rows (trees revs_tree) db id)) (map node_shown rows) (λ q.
    found shown_outline (λ s. (node_shown s).1) (λ r. refl) trees db id rows l.revisions_apart same q
    ∙ ap (finite.find revision_cmp q) (map_same known_node bare_entry (λ r i. (revision_of_row r, bare_is r i)) F ∙ sym (map-map (λ (e : Revision × Entry). (e.0, bare e.1)) known_entry F))
    ∙ find_bare q (map known_entry F) ∙ ap (option_map bare) (sym (kept trees db id q)) ∙ sym (get_outline (history_in_rows (trees revs_tree) db id) q))

pub history_set : IsSet (Option HistoryContent)
history_set = Coded-set (coded_option content_code)

pub history_intact : (trees : Trees) (p : Row → Bool) (rows : List Row) → IsWellFormed trees → IsPermutation (map shown_revision (filter p (trees revs_tree))) rows → AllByRecursion IsShownRevision rows
history_intact trees p rows l same = all-permutation IsShownRevision _ rows same (all_map IsShownRevision shown_revision _ (all-filter _ p _ (shown_revisions trees l)))

pub outline_intact : (trees : Trees) (p : Row → Bool) (rows : List Row) → IsWellFormed trees → IsPermutation (map shown_outline (filter p (trees revs_tree))) rows → AllByRecursion IsShownOutline rows
outline_intact trees p rows l same = all-permutation IsShownOutline _ rows same (all_map IsShownOutline shown_outline _ (all-filter _ p _ (shown_outlines trees l)))
