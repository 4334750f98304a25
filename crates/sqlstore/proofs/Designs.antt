-- What is known of design documents, where documents outside of their range are written, or none.
use Rattle.std.proofs.Common.{◌≡◌, ℕ, ℤ, List, [], ◌∷◌, Bool, true, false, cond, drop, Option, None, Some, filter, map, pos, refl, sym, ap, subst, ◌∙◌}
use Rattle.std.specs.Prelude.{bytes_eq, ◌||◌, Vec}
use Rattle.std.specs.declared.alloc.Global.{Global}
use Rattle.std.proofs.lemmas.Cmp.{nat_list_cmp_total}
use Rattle.std.proofs.lemmas.Slice.Eq.{bytes_eq-Decides}
use Rattle.std.specs.Cmp.Lexicographic.{slice_cmp}
use Rattle.std.proofs.Math.Dec.{T}
use Rattle.std.specs.FinMap as finite
use Rattle.std.specs.FinMap.{find, is_sorted}
use Rattle.std.specs.FinMap.Entries.{find-where_key, is_sorted-where_key, same_entries}
use Rattle.std.specs.List.{AllByRecursion, list_any}
use Rattle.std.specs.Ordering.{nat_cmp}
use Rattle.std.specs.declared.cmp.Ordering.TheVariants.{Equal}
use Rattle.sqlite_value.specs.Order.{Row}
use Rattle.sqlite_trees.specs.Tree.{Trees}
use Rattle.sqlite_keyed.specs.Lists.{sort_by}
use Rattle.store.specs.Database.{Document, TextMap, history_in}
use Rattle.store.specs.Pages.{IdPage, id_page, if_counted, in_direction, is_after_end_of, is_before_start_of, live_rev, live_rows as rows_of_entries, row_counts, up_to_limit, with_row}
use Rattle.store.specs.declared.listing.IdRange.{IdRange}
use Rattle.store.specs.declared.listing.IdRow.{IdRow}
use Rattle.tables.proofs.Common.{IsWellFormed, all_weaker, database_row, inside, not}
use Rattle.tables.proofs.ListingRows.{live_by_id}
use Rattle.tables.proofs.Lookups.{document_found}
use Rattle.tables.proofs.RowMaps.{passing, text_exact}
use Rattle.tables.specs.Listings.{live_rows}
use Rattle.tables.specs.Rows.{by_id, history_in_rows, is_row_of_database, listed_document}
use Rattle.tables.specs.Schema.{docs_tree, revs_tree}
use Rattle.tree.specs.History.{HistoryContent}
use Rattle.tree.specs.Outline.{marked_winner}
use Rattle.tree.specs.Revision.{Revision}
use Rattle.sqlstore.specs.inner.Designs.{AreDesigns, AreKnownDesigns, IsDesign, IsWholeDesignRange, design_rows, is_in_design_range, row_of_design}
use Rattle.sqlstore.specs.inner.Listing.{listed_by_id}
use Rattle.sqlstore.specs.inner.Marks.{KeepsElsewhere, documents_at}
use Rattle.sqlstore.specs.declared.known_design.KnownDesign.{KnownDesign}

-- ---- ids

neither : (a b : Bool) → (a || b) ≡ false → (a ≡ false) × (b ≡ false)
neither true b is = absurd (cc)
neither false b is = (refl, is)

-- an id that passes a test which none of these passes is none of these
pub not_among : (p : List ℕ → Bool) (ids : List (List ℕ)) (id : List ℕ) → list_any p ids ≡ false → p id ≡ true → list_any (λ k. bytes_eq k id) ids ≡ false
not_among p [] id none is = refl
not_among p (k ∷ ids) id none is =
    let parts = neither (p k) (list_any p ids) none in
    by parts.0 (bytes_eq k id) refl ∙ not_among p ids id parts.1 is
  where
    by : p k ≡ false → (b : Bool) → bytes_eq k id ≡ b → (b || list_any (λ k. bytes_eq k id) ids) ≡ list_any (λ k. bytes_eq k id) ids
    by out false apart = refl
    by out true same = let here : p k ≡ true = ap p ((bytes_eq-Decides k id).0 same) ∙ is in absurd (cc)

-- none of the first ones passes, nor this one, so what is left decides
pub left_decides : (a b c : Bool) → (a || b) ≡ c → a ≡ false → b ≡ c
left_decides true b c is out = absurd (cc)
left_decides false b c is out = is

-- ---- rows of documents that pass a test of their ids

module _ (p : List ℕ → Bool) where
  abbrev passes : IdRow → Bool
  passes r = p r.id

  abbrev Entry : Type 0
  Entry = List ℕ × Document

  abbrev is_kept : Entry → Bool
  is_kept e = p e.0

  one_passing : (e : Entry) (rs : List IdRow) (ts : List Entry) → filter passes rs ≡ rows_of_entries ts → (o : Option Revision) → live_rev e.1.history ≡ o → (b : Bool) → p e.0 ≡ b
      → filter passes (with_row e.0 o rs) ≡ rows_of_entries (cond b (e ∷ ts) ts)
  one_passing e rs ts rest None is true same = rest ∙ ap (λ o. with_row e.0 o (rows_of_entries ts)) (sym is)
  one_passing e rs ts rest None is false same = rest
  one_passing e rs ts rest (Some r) is true same =
      ap (λ b. cond b (record { id = e.0; rev = r } ∷ filter passes rs) (filter passes rs)) same ∙ ap (λ (l : List IdRow). record { id = e.0; rev = r } ∷ l) rest ∙ ap (λ o. with_row e.0 o (rows_of_entries ts)) (sym is)
  one_passing e rs ts rest (Some r) is false same = ap (λ b. cond b (record { id = e.0; rev = r } ∷ filter passes rs) (filter passes rs)) same ∙ rest

  rows_passing : (es : List Entry) → filter passes (rows_of_entries es) ≡ rows_of_entries (filter is_kept es)
  rows_passing [] = refl
  rows_passing (e ∷ es) = one_passing e (rows_of_entries es) (filter is_kept es) (rows_passing es) (live_rev e.1.history) refl (p e.0) refl

  module _ (old new : TextMap Document) (same : (id : List ℕ) → p id ≡ true → finite.get new id ≡ finite.get old id) where
    alike : (q x : List ℕ) → slice_cmp nat_cmp q x ≡ Equal → p x ≡ p q
    alike q x tied = ap p (sym (text_exact q x tied))

    found : (m : TextMap Document) (q : List ℕ) → find (slice_cmp nat_cmp) q (filter is_kept (finite.entries m)) ≡ cond (p q) (finite.get m q) None
    found m q = find-where_key (slice_cmp nat_cmp) p q (alike q) (finite.entries m) ∙ ap (λ o. cond (p q) o None) (sym (finite.get-entries m q))

    sorted : (m : TextMap Document) → T (is_sorted (slice_cmp nat_cmp) (filter is_kept (finite.entries m)))
    sorted m = is_sorted-where_key (slice_cmp nat_cmp) p (finite.entries m) (finite.entries_sorted m)

    entries_passing : filter is_kept (finite.entries new) ≡ filter is_kept (finite.entries old)
    entries_passing =
        same_entries (slice_cmp nat_cmp) nat_list_cmp_total text_exact (filter is_kept (finite.entries new)) (filter is_kept (finite.entries old)) (sorted new) (sorted old)
        (λ q. found new q ∙ by q (p q) refl ∙ sym (found old q))
      where
        by : (q : List ℕ) (b : Bool) → p q ≡ b → cond b (finite.get new q) None ≡ cond b (finite.get old q) None
        by q true is = same q is
        by q false is = refl

    pub same_rows : filter passes (rows_of_entries (finite.entries new)) ≡ filter passes (rows_of_entries (finite.entries old))
    same_rows = rows_passing (finite.entries new) ∙ ap rows_of_entries entries_passing ∙ sym (rows_passing (finite.entries old))

-- ---- the documents within the range are as they were

module _ (old new : Trees) (db : ℤ) (was : IsWellFormed old) (is : IsWellFormed new) (same : (id : List ℕ) → is_in_design_range id ≡ true → finite.get (documents_at new db) id ≡ finite.get (documents_at old db) id) where
  abbrev at : Row
  at = database_row db [] [] (pos 0)

  rows_kept : design_rows (live_rows (listed_by_id new db)) ≡ design_rows (live_rows (listed_by_id old db))
  rows_kept =
      ap design_rows (sym (live_by_id new at is)) ∙ same_rows is_in_design_range (documents_at old db) (documents_at new db) same ∙ ap design_rows (live_by_id old at was)

  history_kept : (id : List ℕ) → is_in_design_range id ≡ true → history_in_rows (new revs_tree) db id ≡ history_in_rows (old revs_tree) db id
  history_kept id here = sym (document_found new at id is) ∙ ap history_in (same id here) ∙ document_found old at id was

  design_kept : (d : KnownDesign) → is_in_design_range d.id ≡ true → IsDesign old db d → IsDesign new db d
  design_kept d here k = record {
    winner = ap marked_winner (history_kept d.id here) ∙ k.winner;
    entry = ap (λ (h : HistoryContent). finite.get h d.rev) (history_kept d.id here) ∙ k.entry;
  }

  each_kept : (ds : List KnownDesign) → AllByRecursion (λ (r : IdRow). is_in_design_range r.id ≡ true) (map row_of_design ds) → AllByRecursion (IsDesign old db) ds → AllByRecursion (IsDesign new db) ds
  each_kept [] within each = tt
  each_kept (d ∷ ds) within each = (design_kept d within.0 each.0, each_kept ds within.1 each.1)

  designs_kept : (ds : List KnownDesign) → AreDesigns old db ds → AreDesigns new db ds
  designs_kept ds are = record {
    rows = are.rows ∙ sym rows_kept;
    each = each_kept ds (subst (AllByRecursion (λ (r : IdRow). is_in_design_range r.id ≡ true)) (sym are.rows) (passing (λ (r : IdRow). is_in_design_range r.id) (live_rows (listed_by_id old db)))) are.each;
  }

  known_kept : (known : Option (Vec KnownDesign Global)) → AreKnownDesigns old db known → AreKnownDesigns new db known
  known_kept None are = tt
  known_kept (Some ds) are = designs_kept ds.items are

-- what is known of the design documents is so after writes of which none is of one
pub known_designs_kept : (old new : Trees) (db : ℤ) → IsWellFormed old → IsWellFormed new → (ids : List (List ℕ)) → KeepsElsewhere ids (documents_at old db) (documents_at new db) → list_any is_in_design_range ids ≡ false
    → (known : Option (Vec KnownDesign Global)) → AreKnownDesigns old db known → AreKnownDesigns new db known
known_designs_kept old new db was is ids keeps none = known_kept old new db was is (λ id here. keeps id (not_among is_in_design_range ids id none here))

-- ---- the tables that say something of them are as they were

module _ (old new : Trees) (docs : new docs_tree ≡ old docs_tree) (revs : new revs_tree ≡ old revs_tree) (db : ℤ) where
  design_still : (d : KnownDesign) → IsDesign old db d → IsDesign new db d
  design_still d k = record {
    winner = ap (λ (rows : List Row). marked_winner (history_in_rows rows db d.id)) revs ∙ k.winner;
    entry = ap (λ (rows : List Row). finite.get (history_in_rows rows db d.id) d.rev) revs ∙ k.entry;
  }

  pub known_designs_still : (known : Option (Vec KnownDesign Global)) → AreKnownDesigns old db known → AreKnownDesigns new db known
  known_designs_still None are = tt
  known_designs_still (Some ds) are = record {
    rows = are.rows ∙ sym (ap (λ (rows : List Row). design_rows (live_rows (map listed_document (sort_by by_id (filter (is_row_of_database db) rows))))) docs);
    each = all_weaker (IsDesign old db) (IsDesign new db) design_still ds.items are.each;
  }

-- ---- their page

pub design_page : (range : IdRange) (rs : List IdRow) → IsWholeDesignRange range → id_page range rs ≡ record { rows = design_rows rs; counts = None }
design_page range rs is = λ i. record {
  rows = up_to_limit (is.whole i) (drop (is.from_the_first i) (filter (λ (r : IdRow). not (is_before_start_of (is.ascending i) (is.starts i) r.id || is_after_end_of (is.ascending i) (is.exclusive i) (is.ends i) r.id)) (in_direction (is.ascending i) rs)));
  counts = if_counted (is.uncounted i) (row_counts range rs);
}

pub page_of_designs : (range : IdRange) (rs : List IdRow) (page : IdPage) → IsWholeDesignRange range → Some (id_page range rs) ≡ Some page → page.rows ≡ design_rows rs
page_of_designs range rs page is said = ap (λ (p : IdPage). p.rows) (sym (inside _ _ said) ∙ design_page range rs is)
