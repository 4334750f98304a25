-- What the rows of documents say of their marks, and what is counted of them.
use Rattle.std.proofs.Common.{ap₂}
use Rattle.sqlstore.proofs.Common.{Addition, Bool, Database, HasWritten, IfSome, IsDocumentRow, IsWellFormed, List, None, Option, Row, Some, Trees, [], addition_of, additions, ap, database_of_row, db_of, docs_tree, document_of_row, find, history_in_rows, id_of, is_row_of_document, list_any, map-map, number_of, option_map, pos, refl, revs_tree, subst, sym, writings_in, ℕ, ℤ, ◌∙◌, ◌≡◌}
use Rattle.std.specs.FinMap as finite
use Rattle.std.specs.Prelude.{bytes_eq}
use Rattle.sqlite_keyed.proofs.ListLemmas.{slice_get-filter}
use Rattle.store.proofs.Winnings.{no_winner}
use Rattle.store.specs.Database as store
use Rattle.store.specs.Pages.{is_gone_by}
use Rattle.store.specs.declared.write.Write.{Write}
use Rattle.tables.proofs.Laid.{stored_winner}
use Rattle.tables.proofs.Lookups.{get_id, unwritten}
use Rattle.tables.proofs.RowMaps.{find_found}
use Rattle.tables.proofs.Tables.{of_these}
use Rattle.tables.specs.Rows.{database_row}
use Rattle.tree.specs.Outline.{marked_revision, marked_winner}
use Rattle.tree.specs.declared.marked_rev.MarkedRev.{MarkedRev}
use Rattle.ranks.specs.Counts.{AreRanksOf}
use Rattle.ranks.specs.Seen.{Ranks}
use Rattle.sqlstore.specs.inner.Listing.{all_count, live_ids}
use Rattle.sqlstore.specs.inner.Marks.{AreCounts, AreCountsAt, KeepsElsewhere, count_in, documents_at, ids_of, live_keys, mark_of, marked_in}
use Rattle.sqlstore.specs.declared.document_count.DocumentCount.{DocumentCount}
use Rattle.sqlstore.specs.declared.known_counts.KnownCounts.{KnownCounts}
use Rattle.sqlstore.proofs.MarkChanges.{kept_elsewhere}
use Rattle.sqlstore.proofs.LiveIds.{live_at, ranked_same}
use Rattle.sqlstore.proofs.OtherKnown.{counted_there}
use Rattle.std.proofs.lemmas.List.Sorted.{IsPermutation-sym}

module _ (trees : Trees) (db : ℤ) (l : IsWellFormed trees) where
  -- the mark of a winner is that of the document
  pub mark_found : (id : List ℕ) → option_map (λ (w : MarkedRev). w.deleted) (marked_winner (history_in_rows (trees revs_tree) db id)) ≡ mark_of (finite.get (documents_at trees db) id)
  mark_found id =
      by (find (is_row_of_document db id) (trees docs_tree)) refl
      ∙ sym (ap mark_of (get_id db id (document_of_row (trees revs_tree)) (trees docs_tree) ∙ ap (option_map (document_of_row (trees revs_tree))) (slice_get-filter (is_row_of_document db id) (trees docs_tree))))
    where
      by : (o : Option Row) → find (is_row_of_document db id) (trees docs_tree) ≡ o → option_map (λ (w : MarkedRev). w.deleted) (marked_winner (history_in_rows (trees revs_tree) db id)) ≡ mark_of (option_map (document_of_row (trees revs_tree)) o)
      by None none =
          ap (λ h. option_map (λ (w : MarkedRev). w.deleted) (marked_winner h)) (unwritten trees db id l none)
          ∙ ap (λ o. option_map (λ (w : MarkedRev). w.deleted) (option_map (marked_revision finite.empty) o)) no_winner
      by (Some r) is =
          let found = find_found (IsDocumentRow trees) (is_row_of_document db id) (trees docs_tree) r l.docs is in
          let own = of_these db id r found.1 in
          let w = stored_winner trees l.revs r found.0 in
          let H = history_in_rows (trees revs_tree) (db_of r) (id_of r) in
          ap₂ (λ (n : ℤ) (i : List ℕ). option_map (λ (w : MarkedRev). w.deleted) (marked_winner (history_in_rows (trees revs_tree) n i))) (sym own.0) (sym own.1)
          ∙ ap (λ o. option_map (λ (w : MarkedRev). w.deleted) (option_map (marked_revision H) o)) w.1
          ∙ sym (ap (λ o. Some (is_gone_by H o)) w.1)

  -- as many rows are marked so as documents
  counted_at : (deleted : Bool) → all_count trees db deleted ≡ marked_in deleted (documents_at trees db)
  counted_at deleted = counted_there trees (database_row db [] [] (pos 0)) l deleted

  pub counts_at : (counts : KnownCounts) → AreCountsAt counts db trees → AreCounts counts (documents_at trees db)
  counts_at counts are deleted = subst (λ n. IfSome (count_in deleted counts) (λ (c : DocumentCount). c.value ≡ n)) (counted_at deleted) (are deleted)

  pub counts_from : (counts : KnownCounts) → AreCounts counts (documents_at trees db) → AreCountsAt counts db trees
  counts_from counts are deleted = subst (λ n. IfSome (count_in deleted counts) (λ (c : DocumentCount). c.value ≡ n)) (sym (counted_at deleted)) (are deleted)

  -- ranks of the ids of rows are those of the ids of documents
  pub ranks_at : (ranks : Option Ranks) → IfSome ranks (λ r. AreRanksOf r (live_ids trees db)) → IfSome ranks (λ r. AreRanksOf r (live_keys (documents_at trees db)))
  ranks_at ranks = ranked_same ranks (live_ids trees db) (live_keys (documents_at trees db)) (live_at trees db l)

  pub ranks_from : (ranks : Option Ranks) → IfSome ranks (λ r. AreRanksOf r (live_keys (documents_at trees db))) → IfSome ranks (λ r. AreRanksOf r (live_ids trees db))
  ranks_from ranks = ranked_same ranks (live_keys (documents_at trees db)) (live_ids trees db) (IsPermutation-sym _ _ (live_at trees db l))

-- ---- what writes leave

-- the documents that are not written are as they were
pub written_elsewhere : (ws : List Write) (name : List ℕ) (r : Row) (n : ℤ) (old new : Database) → number_of r ≡ n → HasWritten (writings_in (database_of_row old.trees r) (additions ws)) name r old new
    → KeepsElsewhere (ids_of ws) (documents_at old.trees n) (documents_at new.trees n)
written_elsewhere ws name r n old new numbered done =
    subst (λ m. KeepsElsewhere (ids_of ws) (documents_at old.trees m) (documents_at new.trees m)) numbered (λ id none.
    ap (λ (d : store.Database). finite.get d.documents id) done.database
    ∙ kept_elsewhere (additions ws) (database_of_row old.trees r) id (ap (list_any (λ k. bytes_eq k id)) (map-map (λ (a : Addition). a.id) addition_of ws) ∙ none))
