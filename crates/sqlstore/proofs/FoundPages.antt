-- The pages of a database that is found by its name are those of the rows of its number.
use Rattle.sqlstore.proofs.Common.{Answers, Coded-set, Document, Ghosts, IsDatabaseRow, IsWellFormed, List, NumberValues, Result, SeqRange, Some, SqlStore, Stands, StoreFault, Trees, all-filter, all-slice_get, ap, content_code, contents_in, contents_of, database_of_row, dbs_tree, document_counts, false, filter, history_at, history_in_rows, id_page, if_counted, in_sequence, index_fields_of, index_rows, is_honest, is_named, key_page, leaves_row, sequence_of_database, listed_by_id, listed_by_sequence, listed_counts, live_rows, map, number_of, numbers_in, option_map, page_by_sequence, page_of_ids, page_of_keys, page_with_leaves, revs_tree, rows_of, sequence_page, sequence_row, slice_get, subst, sym, trees_of, true, winners_page, ℕ, ∥∥₁_elim, ◌<◌, ◌^◌, ◌∙◌, ◌≡◌}
use Rattle.std.specs.FinMap as finite
use Rattle.store.specs.Database.{Database}
use Rattle.store.specs.declared.index_page.KeyRange.{KeyRange}
use Rattle.store.specs.declared.listing.IdRange.{IdRange}
use Rattle.tables.proofs.ListingRows.{counts_by_sequence, leaves_by_sequence, live_by_id, winners_by_sequence}
use Rattle.tables.proofs.Lookups.{document_found}
use Rattle.tree.specs.Outline.{marked_winner, outline_of}
use Rattle.tree.specs.Revision.{Revision}
use Rattle.sqlstore.proofs.Afterwards.{afterwards, stands_same}
use Rattle.sqlstore.proofs.Answering.{IsThere, laid, there, was_honest}
use Rattle.sqlstore.proofs.ListedRows.{counts_set, id_rows_set, leaves_rows, page_kept, sequence_rows_set}

-- the database's own sequence is one that a page may hold
pub bounded_there : (trees : Trees) (name : List ℕ) (k : NumberValues) → IsWellFormed trees → IsThere numbers_in trees name k → k.1 < 2 ^ 63
bounded_there trees name k l t =
    subst (λ (v : NumberValues). v.1 < 2 ^ 63) t.values (all-slice_get IsDatabaseRow _ 0 t.row t.first (all-filter IsDatabaseRow (is_named name) _ l.dbs)).bounded

-- what is said of a database that was found is said of the rows that the next reader finds
pub found_at : {S A : Type 0} (g : Ghosts S) (old mid : SqlStore S g) (name : List ℕ) (k : NumberValues) → Stands g old mid → is_honest g mid → option_map numbers_in (slice_get (filter (is_named name) (trees_of g old dbs_tree)) 0) ≡ Some k
    → {defined : A} (said : Trees → A) → (∥ IsWellFormed (trees_of g old) ∥₁ → IsThere numbers_in (trees_of g old) name k → defined ≡ said (trees_of g old)) → defined ≡ said (trees_of g mid)
found_at g old mid name k stood honest found said is =
    is (laid g old (was_honest g old mid stood honest)) (there numbers_in (trees_of g old) name k found) ∙ ap said (sym (stands_same g old mid stood))

-- what the next reader answers of it is answered of the database
pub found_then : {S X A : Type 0} (g : Ghosts S) (old mid new : SqlStore S g) (name : List ℕ) (k : NumberValues) (view : X → A) (f : Database → A) (said : Trees → A) (r : Result X StoreFault) → Stands g old mid → Stands g mid new
    → (is_honest g mid → option_map numbers_in (slice_get (filter (is_named name) (trees_of g old dbs_tree)) 0) ≡ Some k)
    → (∥ IsWellFormed (trees_of g old) ∥₁ → IsThere numbers_in (trees_of g old) name k → option_map f (finite.get (contents_of g old) name) ≡ Some (said (trees_of g old)))
    → Answers g mid new view (Some (said (trees_of g mid))) r → Answers g old new view (option_map f (finite.get (contents_of g old) name)) r
found_then g old mid new name k view f said r stood further found is =
    afterwards g old mid new view (Some (said (trees_of g mid))) (option_map f (finite.get (contents_of g old) name)) r stood
    (λ honest. let was = was_honest g mid new further honest in found_at g old mid name k stood was (found was) (λ t. Some (said t)) is)

module _ (trees : Trees) (name : List ℕ) (k : NumberValues) (lay : ∥ IsWellFormed trees ∥₁) (t : IsThere numbers_in trees name k) where
  -- ---- histories

  history_of : (id : List ℕ) → history_at (database_of_row trees t.row) id ≡ history_in_rows (trees revs_tree) k.0 id
  history_of id = ∥∥₁_elim lay (Coded-set content_code _ _) (document_found trees t.row id) ∙ ap (λ (v : NumberValues). history_in_rows (trees revs_tree) v.0 id) t.values

  pub history_there : (id : List ℕ) → option_map (λ (db : Database). history_at db id) (finite.get (contents_in trees) name) ≡ Some (history_in_rows (trees revs_tree) k.0 id)
  history_there id = ap (option_map (λ (db : Database). history_at db id)) t.database ∙ ap Some (history_of id)

  pub outline_there : (id : List ℕ) → option_map (λ (db : Database). outline_of (history_at db id)) (finite.get (contents_in trees) name) ≡ Some (outline_of (history_in_rows (trees revs_tree) k.0 id))
  outline_there id = ap (option_map (λ (db : Database). outline_of (history_at db id))) t.database ∙ ap (λ h. Some (outline_of h)) (history_of id)

  pub winner_there : (id : List ℕ) → option_map (λ (db : Database). marked_winner (history_at db id)) (finite.get (contents_in trees) name) ≡ Some (marked_winner (history_in_rows (trees revs_tree) k.0 id))
  winner_there id = ap (option_map (λ (db : Database). marked_winner (history_at db id))) t.database ∙ ap (λ h. Some (marked_winner h)) (history_of id)

  pub revision_there : (id : List ℕ) (q : Revision) → option_map (λ (db : Database). finite.get (history_at db id) q) (finite.get (contents_in trees) name) ≡ Some (finite.get (history_in_rows (trees revs_tree) k.0 id) q)
  revision_there id q = ap (option_map (λ (db : Database). finite.get (history_at db id) q)) t.database ∙ ap (λ h. Some (finite.get h q)) (history_of id)

  -- ---- by id

  pub id_page_there : (range : IdRange) → option_map (λ (db : Database). page_of_ids range db) (finite.get (contents_in trees) name) ≡ Some (id_page range (live_rows (listed_by_id trees k.0)))
  id_page_there range =
      ap (option_map (λ (db : Database). page_of_ids range db)) t.database
      ∙ ap (λ rs. Some (id_page range rs)) (∥∥₁_elim lay (id_rows_set _ _) (live_by_id trees t.row) ∙ ap (λ (v : NumberValues). live_rows (listed_by_id trees v.0)) t.values)

  -- ---- by sequence

  abbrev documents : List (List ℕ × Document)
  documents = finite.entries (database_of_row trees t.row).documents

  with_winners : in_sequence (rows_of false documents) ≡ map sequence_row (listed_by_sequence trees (number_of t.row))
  with_winners =
      ∥∥₁_elim lay (sequence_rows_set (in_sequence (rows_of false documents)) (map sequence_row (listed_by_sequence trees (number_of t.row)))) (winners_by_sequence trees t.row)

  with_all : in_sequence (rows_of true documents) ≡ map (leaves_row (trees revs_tree) (number_of t.row)) (listed_by_sequence trees (number_of t.row))
  with_all =
      ∥∥₁_elim lay (sequence_rows_set (in_sequence (rows_of true documents)) (map (leaves_row (trees revs_tree) (number_of t.row)) (listed_by_sequence trees (number_of t.row)))) (leaves_by_sequence trees t.row)

  counts : document_counts documents ≡ listed_counts (listed_by_sequence trees (number_of t.row))
  counts = ∥∥₁_elim lay (counts_set _ _) (counts_by_sequence trees t.row)

  page_there : (range : SeqRange) → option_map (λ (db : Database). page_by_sequence range db) (finite.get (contents_in trees) name)
      ≡ Some (sequence_page range (sequence_of_database t.row) (if_counted range.counted (listed_counts (listed_by_sequence trees (number_of t.row)))) (in_sequence (rows_of range.all_leaves documents)))
  page_there range =
      ap (option_map (λ (db : Database). page_by_sequence range db)) t.database
      ∙ ap (λ c. Some (sequence_page range (sequence_of_database t.row) (if_counted range.counted c) (in_sequence (rows_of range.all_leaves documents)))) counts

  pub winners_there : (range : SeqRange) → range.all_leaves ≡ false
      → option_map (λ (db : Database). page_by_sequence range db) (finite.get (contents_in trees) name) ≡ Some (winners_page range k.1 (listed_by_sequence trees k.0))
  winners_there range is =
      let rows = ap (λ all. in_sequence (rows_of all documents)) is ∙ with_winners in
      page_there range
      ∙ ap (λ rs. Some (sequence_page range (sequence_of_database t.row) (if_counted range.counted (listed_counts (listed_by_sequence trees (number_of t.row)))) rs)) rows
      ∙ ap (λ (v : NumberValues). Some (winners_page range v.1 (listed_by_sequence trees v.0))) t.values

  pub leaves_there : (range : SeqRange) → range.all_leaves ≡ true
      → option_map (λ (db : Database). page_by_sequence range db) (finite.get (contents_in trees) name) ≡ Some (page_with_leaves (history_in_rows (trees revs_tree) k.0) (winners_page range k.1 (listed_by_sequence trees k.0)))
  leaves_there range is =
      let n = number_of t.row in
      let rows = ap (λ all. in_sequence (rows_of all documents)) is ∙ with_all ∙ leaves_rows trees n (listed_by_sequence trees n) in
      page_there range
      ∙ ap (λ rs. Some (sequence_page range (sequence_of_database t.row) (if_counted range.counted (listed_counts (listed_by_sequence trees n))) rs)) rows
      ∙ ap Some (page_kept (history_in_rows (trees revs_tree) n) range (sequence_of_database t.row) (if_counted range.counted (listed_counts (listed_by_sequence trees n))) (map sequence_row (listed_by_sequence trees n)))
      ∙ ap (λ (v : NumberValues). Some (page_with_leaves (history_in_rows (trees revs_tree) v.0) (winners_page range v.1 (listed_by_sequence trees v.0)))) t.values

  -- ---- by key

  pub key_page_by : (range : KeyRange) (design index : List ℕ) → option_map (λ (db : Database). page_of_keys range design index db) (finite.get (contents_in trees) name)
      ≡ Some (option_map (λ fields. key_page range (index_rows fields (database_of_row trees t.row))) (index_fields_of design (history_in_rows (trees revs_tree) k.0 design) index))
  key_page_by range design index =
      ap (option_map (λ (db : Database). page_of_keys range design index db)) t.database
      ∙ ap (λ h. Some (option_map (λ fields. key_page range (index_rows fields (database_of_row trees t.row))) (index_fields_of design h index))) (history_of design)
