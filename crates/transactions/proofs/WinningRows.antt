-- What the row of one document says: its winner.
use Rattle.transactions.proofs.Common.{AllByRecursion, Bool, Coded-set, IsWellFormed, List, None, Option, Revision, Row, Some, Trees, [], all-filter, all_map, ap, coded_option, cond, db_of, docs_tree, filter, history_in_rows, id_of, inl, inr, is_known, is_row_of_document, map, option_map, refl, revs_tree, slice_get, subst, sym, true, false, ℕ, ℤ, ◌∙◌, ◌∷◌, ◌≡◌, Addition, HasBest, HistoryContent, with_addition}
use Rattle.std.specs.FinMap as finite
use Rattle.std.specs.Prelude.{is_some, option_and_then, ◌⊎◌, IfSome}
use Rattle.std.proofs.Common.{ap₂}
use Rattle.std.specs.Ordering.{eq_by_cmp}
use Rattle.tables.proofs.Common.{all_both}
use Rattle.sqlite_keyed.proofs.ListLemmas.{slice_get-filter}
use Rattle.sqlite_keyed.proofs.SliceLemmas.{any_is_found}
use Rattle.std.specs.List.{list_any}
use Rattle.store.proofs.Winnings.{no_winner}
use Rattle.tables.proofs.Laid.{history, stored_winner}
use Rattle.tables.proofs.ListingRows.{rows_of_a_listing, won}
use Rattle.tables.proofs.Lookups.{unwritten}
use Rattle.tables.proofs.RowMaps.{passing}
use Rattle.tables.proofs.Single.{few}
use Rattle.tables.proofs.Tables.{of_these, one_of}
use Rattle.tables.specs.Layout.{IsDocumentRow, IsRevisionRow}
use Rattle.tables.specs.Listings.{IsListedDocument}
use Rattle.tables.specs.Rows.{entry_of, is_gone_row, listed_document, revision_of_row}
use Rattle.tree.proofs.Kept.{revision_cmp_total}
use Rattle.tree.proofs.Shown.{inside}
use Rattle.tree.specs.History.{winner}
use Rattle.tree.specs.Outline.{marked_revision, marked_winner}
use Rattle.tree.specs.Revision.{revision_cmp}
use Rattle.tree.specs.contracts.marked_rev.MarkedRev as marked_rev
use Rattle.tree.specs.declared.entry.Entry.{Entry}
use Rattle.tree.specs.declared.marked_rev.MarkedRev.{MarkedRev}
use Rattle.transactions.specs.inner.Following.{AreParentsKnown, HasPlaceFor, IsReadFor, Serves}
use Rattle.transactions.specs.inner.Histories.{stored_history}
use Rattle.transactions.specs.Reading.{winner_shown}

pub winner_set : IsSet (Option (Option MarkedRev))
winner_set = Coded-set (coded_option (coded_option marked_rev.the_row.coded))

module _ (trees : Trees) (db : ℤ) (id : List ℕ) (l : IsWellFormed trees) where
  own_winner : (r : Row) (k : IsDocumentRow trees r) → winner_shown (listed_document r) ≡ marked_winner (history trees l.revs r k)
  own_winner r k =
      let H = history_in_rows (trees revs_tree) (db_of r) (id_of r) in
      let w = stored_winner trees l.revs r k in
      ap (option_map (λ v. record { rev = v; deleted = is_gone_row r })) (sym (won trees l.revs r k) ∙ w.1)
      ∙ ap (λ b. Some (record { rev = w.0; deleted = b })) (k.gone w.0 w.1)
      ∙ sym (ap (option_map (marked_revision H)) w.1)

  -- the row of a document is one of its own, and it has a winner
  one_row : (r : Row) → filter (is_row_of_document db id) (trees docs_tree) ≡ r ∷ [] → (winner_shown (listed_document r) ≡ marked_winner (history_in_rows (trees revs_tree) db id)) × (is_some (winner (history_in_rows (trees revs_tree) db id)) ≡ true)
  one_row r is =
      let k : IsDocumentRow trees r = (subst (AllByRecursion (IsDocumentRow trees)) is (all-filter (IsDocumentRow trees) (is_row_of_document db id) (trees docs_tree) l.docs)).0 in
      let own = of_these db id r (subst (AllByRecursion (λ x. is_row_of_document db id x ≡ true)) is (passing (is_row_of_document db id) (trees docs_tree))).0 in
      let here = λ (n : ℤ) (i : List ℕ). history_in_rows (trees revs_tree) n i in (
        own_winner r k ∙ ap₂ (λ (n : ℤ) (i : List ℕ). marked_winner (here n i)) own.0 own.1,
        ap₂ (λ (n : ℤ) (i : List ℕ). is_some (winner (here n i))) (sym own.0) (sym own.1) ∙ ap is_some (stored_winner trees l.revs r k).1,
      )

  -- a document without a row was never written
  pub nothing_written : filter (is_row_of_document db id) (trees docs_tree) ≡ [] → history_in_rows (trees revs_tree) db id ≡ finite.empty
  nothing_written none = unwritten trees db id l (sym (slice_get-filter (is_row_of_document db id) (trees docs_tree)) ∙ ap (λ rs. slice_get rs 0) none)

  winner_first : (rows : List Row) → filter (is_row_of_document db id) (trees docs_tree) ≡ rows → (rows ≡ []) ⊎ ((r : Row) × (rows ≡ r ∷ [])) → option_and_then winner_shown (slice_get (map listed_document rows) 0) ≡ marked_winner (history_in_rows (trees revs_tree) db id)
  winner_first rows is (inl none) =
      ap (λ rs. option_and_then winner_shown (slice_get (map listed_document rs) 0)) none
      ∙ sym (ap marked_winner (nothing_written (is ∙ none)) ∙ ap (option_map (marked_revision finite.empty)) no_winner)
  winner_first rows is (inr (r, one)) =
      ap (λ rs. option_and_then winner_shown (slice_get (map listed_document rs) 0)) one ∙ (one_row r (is ∙ one)).0

  pub winner_found : option_and_then winner_shown (slice_get (map listed_document (filter (is_row_of_document db id) (trees docs_tree))) 0) ≡ marked_winner (history_in_rows (trees revs_tree) db id)
  winner_found = winner_first (filter (is_row_of_document db id) (trees docs_tree)) refl (few (is_row_of_document db id) (trees docs_tree) (one_of (trees docs_tree) l.ids_apart db id))

  -- a document has a row where it has a winner
  pub has_row : list_any (is_row_of_document db id) (trees docs_tree) ≡ is_some (winner (history_in_rows (trees revs_tree) db id))
  has_row = any_is_found (is_row_of_document db id) (trees docs_tree) ∙ ap is_some (sym (slice_get-filter (is_row_of_document db id) (trees docs_tree))) ∙ by
    where
      by : is_some (slice_get (filter (is_row_of_document db id) (trees docs_tree)) 0) ≡ is_some (winner (history_in_rows (trees revs_tree) db id))
      by = elim (few (is_row_of_document db id) (trees docs_tree) (one_of (trees docs_tree) l.ids_apart db id)) as (λ _. is_some (slice_get (filter (is_row_of_document db id) (trees docs_tree)) 0) ≡ is_some (winner (history_in_rows (trees revs_tree) db id))) [
        | inl is ↦ ap (λ rs. is_some (slice_get rs 0)) is ∙ sym (ap (λ h. is_some (winner h)) (nothing_written is) ∙ ap is_some no_winner)
        | inr it ↦ ap (λ rs. is_some (slice_get rs 0)) it.1 ∙ sym (one_row it.0 it.1).1
      ]

  -- a document without a winner has no row
  pub no_row : winner (history_in_rows (trees revs_tree) db id) ≡ None → filter (is_row_of_document db id) (trees docs_tree) ≡ []
  no_row none = elim (few (is_row_of_document db id) (trees docs_tree) (one_of (trees docs_tree) l.ids_apart db id)) as (λ _. filter (is_row_of_document db id) (trees docs_tree) ≡ []) [
    | inl is ↦ is
    | inr it ↦ absurd (both (sym (ap is_some none) ∙ (one_row it.0 it.1).1))
  ]
    where
      both : false ≡ true → ⊥
      both e = cc

  -- and was never written
  pub never_written : marked_winner (history_in_rows (trees revs_tree) db id) ≡ None → history_in_rows (trees revs_tree) db id ≡ finite.empty
  never_written none = nothing_written (no_row (unmarked (winner (history_in_rows (trees revs_tree) db id)) none))
    where
      unmarked : (o : Option Revision) → option_map (marked_revision (history_in_rows (trees revs_tree) db id)) o ≡ None → o ≡ None
      unmarked None is = refl
      unmarked (Some r) is = absurd (cc)

  pub documents_intact : (rows : List Row) → rows ≡ map listed_document (filter (is_row_of_document db id) (trees docs_tree)) → AllByRecursion IsListedDocument rows
  documents_intact rows is =
      subst (AllByRecursion IsListedDocument) (sym is) (all_map IsListedDocument listed_document _ (all-filter (λ r. IsListedDocument (listed_document r)) (is_row_of_document db id) _ (rows_of_a_listing trees l)))

-- ---- the parents that the rows of revisions name are known

found_row : (P : Row → Type 0) (rows : List Row) (q : Revision) (e : Entry) → AllByRecursion P rows → finite.find revision_cmp q (map (λ r. (revision_of_row r, entry_of r)) rows) ≡ Some e → (r : Row) × P r × (entry_of r ≡ e)
found_row P [] q e all is = absurd (cc)
found_row P (r ∷ rows) q e all is = by (found_row P rows q e all.1) (eq_by_cmp revision_cmp q (revision_of_row r)) is
  where
    by : (finite.find revision_cmp q (map (λ s. (revision_of_row s, entry_of s)) rows) ≡ Some e → (s : Row) × P s × (entry_of s ≡ e)) → (b : Bool)
        → cond b (Some (entry_of r)) (finite.find revision_cmp q (map (λ s. (revision_of_row s, entry_of s)) rows)) ≡ Some e → (s : Row) × P s × (entry_of s ≡ e)
    by rest true is = (r, all.0, inside (entry_of r) e is)
    by rest false is = rest is

parent_there : (o : Option Entry) (p : Revision) → option_and_then (λ (x : Entry). x.parent) o ≡ Some p → (x : Entry) × (o ≡ Some x) × (x.parent ≡ Some p)
parent_there None p is = absurd (cc)
parent_there (Some x) p is = (x, refl, is)

module _ (trees : Trees) (db : ℤ) (id : List ℕ) (l : IsWellFormed trees) where
  abbrev IsOwn : Row → Type 0
  IsOwn r = IsRevisionRow trees r × (is_row_of_document db id r ≡ true)

  own_rows : AllByRecursion IsOwn (filter (is_row_of_document db id) (trees revs_tree))
  own_rows = all_both (IsRevisionRow trees) (λ r. is_row_of_document db id r ≡ true) IsOwn (λ r k own. (k, own)) _ (all-filter (IsRevisionRow trees) (is_row_of_document db id) (trees revs_tree) l.revs) (passing (is_row_of_document db id) (trees revs_tree))

  pub parents_laid : AreParentsKnown (history_in_rows (trees revs_tree) db id)
  parents_laid q p up =
      let H = history_in_rows (trees revs_tree) db id in
      let there = parent_there (finite.get H q) p up in
      let found = found_row IsOwn (filter (is_row_of_document db id) (trees revs_tree)) q there.0 own_rows (sym (finite.get-from_entries revision_cmp_total (map (λ r. (revision_of_row r, entry_of r)) (filter (is_row_of_document db id) (trees revs_tree))) q) ∙ there.1) in
      let own = of_these db id found.0 found.1.1 in
      ap₂ (λ (n : ℤ) (i : List ℕ). is_known (history_in_rows (trees revs_tree) n i) p) (sym own.0) (sym own.1)
      ∙ found.1.0.follows p (ap (λ (x : Entry). x.parent) found.2 ∙ there.2)

-- ---- what is read for a write

module _ (trees : Trees) (db : ℤ) (l : IsWellFormed trees) (a : Addition) where
  abbrev Stored : HistoryContent
  Stored = stored_history trees db a.id

  -- the history that is made of the winner serves, if one is made
  pub read_for : (copied wins : Option MarkedRev) (made asked : Option HistoryContent) → copied ≡ wins → wins ≡ marked_winner Stored → made ≡ asked
      → ((h : HistoryContent) → copied ≡ marked_winner h → (copied ≡ None → h ≡ finite.empty) → AreParentsKnown h → HasPlaceFor h a → IfSome made (Serves a h))
      → ((h : HistoryContent) → (copied ≡ None → h ≡ finite.empty) → HasBest (with_addition h a) → IfSome made (λ k. HasBest (with_addition k a))) → IsReadFor a Stored (wins, asked)
  read_for copied wins made asked same found is serves has_best = record {
    winner_is = found;
    serves = λ place. subst (λ o. IfSome o (Serves a Stored)) is (serves Stored (same ∙ found) new (parents_laid trees db a.id l) place);
    has_best = λ best. subst (λ o. IfSome o (λ k. HasBest (with_addition k a))) is (has_best Stored new best);
  }
    where
      new : copied ≡ None → Stored ≡ finite.empty
      new none = never_written trees db a.id l (sym (same ∙ found) ∙ none)
