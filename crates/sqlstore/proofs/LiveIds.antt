-- The ids of the rows whose winner is not deleted are those of the documents that the rows are of.
use Rattle.tables.proofs.Common.{Bool, Document, IsDocumentRow, IsWellFormed, IsPermutation, IsPermutation-map, IsPermutation-sort_by, List, Row, Trees, [], all-filter, all_weaker, ap, by_id, database_of_row, database_row, docs_tree, document_of_row, filter, filter-map, id_of, is_gone_by, is_row_of_database, map, map-map, nat_list_cmp_total, not, number_of, on_total, pos, revs_tree, sort_by, subst, sym, ℕ, ℤ, ◌∙◌, ◌≡◌}
use Rattle.std.proofs.Common.{IfSome, None, Option, Some}
use Rattle.std.proofs.lemmas.List.Sorted.{IsPermutation-sym}
use Rattle.ranks.proofs.Lists.{counts_permuted}
use Rattle.ranks.specs.Counts.{AreRanksOf}
use Rattle.ranks.specs.Seen.{Ranks}
use Rattle.sqlite_keyed.proofs.ListLemmas.{IsPermutation-filter}
use Rattle.sqlite_trees.proofs.ListLemmas.{filter_same as filter_on}
use Rattle.store.specs.Pages.{is_gone}
use Rattle.tables.proofs.Laid.{history, stored_winner}
use Rattle.tables.proofs.ListingRows.{documents_by_id}
use Rattle.tables.proofs.RowMaps.{filter_both}
use Rattle.tables.specs.Rows.{is_gone_row as is_gone_row}
use Rattle.sqlstore.specs.inner.Listing.{live_ids}
use Rattle.sqlstore.specs.inner.Marks.{documents_at, live_keys}

module _ (trees : Trees) (d : Row) (l : IsWellFormed trees) where
  abbrev mine : List Row
  mine = filter (is_row_of_database (number_of d)) (trees docs_tree)

  abbrev ordered : List Row
  ordered = sort_by by_id mine

  abbrev document : Row → Document
  document r = document_of_row (trees revs_tree) r

  abbrev entry : Row → List ℕ × Document
  entry r = (id_of r, document r)

  abbrev is_live_row : Row → Bool
  is_live_row r = not (is_gone_row r)

  abbrev is_live_document : Row → Bool
  is_live_document r = not (is_gone (document r).history)

  -- the mark of a row is that of its document
  marked : (r : Row) → IsDocumentRow trees r → is_live_row r ≡ is_live_document r
  marked r k =
      let w = stored_winner trees l.revs r k in
      sym (ap not (ap (is_gone_by (history trees l.revs r k)) w.1 ∙ sym (k.gone w.0 w.1)))

  of_rows : live_ids trees (number_of d) ≡ map id_of (filter is_live_document mine)
  of_rows =
      ap (map id_of) (sym (filter_both is_live_row (is_row_of_database (number_of d)) (trees docs_tree)))
      ∙ ap (map id_of) (filter_on is_live_row is_live_document mine (all_weaker (IsDocumentRow trees) (λ r. is_live_row r ≡ is_live_document r) marked mine (all-filter (IsDocumentRow trees) (is_row_of_database (number_of d)) (trees docs_tree) l.docs)))

  of_documents : live_keys (database_of_row trees d).documents ≡ map id_of (filter is_live_document ordered)
  of_documents =
      ap (λ es. map (λ (e : List ℕ × Document). e.0) (filter (λ e. not (is_gone e.1.history)) es)) (documents_by_id trees d l)
      ∙ ap (map (λ (e : List ℕ × Document). e.0)) (filter-map (λ (e : List ℕ × Document). not (is_gone e.1.history)) entry ordered)
      ∙ map-map (λ (e : List ℕ × Document). e.0) entry (filter is_live_document ordered)

  pub live_there : IsPermutation (live_ids trees (number_of d)) (live_keys (database_of_row trees d).documents)
  live_there =
      let by = IsPermutation-sort_by by_id (on_total id_of nat_list_cmp_total) mine in
      let same = IsPermutation-map id_of _ _ (IsPermutation-filter is_live_document mine ordered (IsPermutation-sym ordered mine by)) in
      subst (λ ks. IsPermutation ks (live_keys (database_of_row trees d).documents)) (sym of_rows)
      (subst (IsPermutation (map id_of (filter is_live_document mine))) (sym of_documents) same)

-- the same of the database of a number
pub live_at : (trees : Trees) (db : ℤ) → IsWellFormed trees → IsPermutation (live_ids trees db) (live_keys (documents_at trees db))
live_at trees db l = live_there trees (database_row db [] [] (pos 0)) l

-- ranks of ids are those of the same ids in another order
pub ranked_same : (ranks : Option Ranks) (ks ls : List (List ℕ)) → IsPermutation ks ls → IfSome ranks (λ r. AreRanksOf r ks) → IfSome ranks (λ r. AreRanksOf r ls)
ranked_same None ks ls same are = tt
ranked_same (Some r) ks ls same are = counts_permuted r.head ks ls r.segments same are
