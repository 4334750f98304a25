-- What the statements on documents mean.
use Rattle.tables.proofs.Common.{AllByRecursion, AreDocumentRows, Binary, Blob, Bool, Changes, Delete, Equal, IfOk, Insert, Int, IsDocumentRow, IsKeyed, IsStore, IsTotalOrder, Key, List, Null, OnOk, Ordering, Ran, Result, Row, Select, Shown, State, Term, Text, Update, Values, [], all_weaker, and_parts, ap, ap₂, arith, as_count, cast_row, codes, col, column, comes_after, cond, db_of, docs_table, docs_tree, document_cells, document_row, drop, eval, everything, false, filter, filter-map, first_rows, flag, holds, id_of, int_cmp, ints, is_gone_row, is_row_of_database, is_row_of_document, limited, list_all, listed_document, lit, map, nat_cmp, nat_cmp-IsAntisymmetric, nat_cmp_total, nat_list_cmp_total, nat_tests, negsuc, number_of, on_total, ordering_then, pos, refl, row_with_winner, rows_with_winner, same_int, schema, sequence_of_row, sort_by, subst, sym, then-Equal, true, understood, value_cmp, value_cmp-Int, winner, winner_text, ℕ, ℤ, ◌&&◌, ◌∙◌, ◌∷◌, ◌≡◌, ◌≢◌}
use Rattle.tables.proofs.Cells.{blobs_agree, by_db, by_id, by_later, cast_null, cast_int, tests_db, tests_id, tests_later}
use Rattle.tables.proofs.RowMaps.{filter_both, text_exact, untied}
use Rattle.tables.proofs.Pages.{lists}
use Rattle.tables.proofs.Sorted.{sorted_left}
use Rattle.tables.specs.Rows as order
use Rattle.tables.proofs.Queries.{first_program, program_on}
use Rattle.tables.proofs.Finds.{finds_one}
use Rattle.tables.proofs.Numbered.{numbered_from_keyed}
use Rattle.tables.proofs.Tables.{docs_keyed, docs_plain, one_of}
use Rattle.tables.proofs.Updates.{updates_where}
use Rattle.tables.proofs.Writes.{IsCommand, update_stays}

pub inserts_document : IsCommand schema (codes "INSERT INTO docs (db, id, seq, winner, del) VALUES (?1, ?2, ?3, ?4, ?5)") (Insert 2 (Values (lit Null ∷ col 0 0 ∷ col 0 1 ∷ col 0 2 ∷ col 0 3 ∷ col 0 4 ∷ []) 6))
unfolding understood everything
inserts_document = record { is = refl; plain = (refl, refl); unlisted = refl }

pub clears_documents : IsCommand schema (codes "DELETE FROM docs WHERE db = ?1") (Delete 2 (program_on docs_tree by_db (col 1 0 ∷ []) []))
unfolding understood everything
clears_documents = record { is = refl; plain = (refl, refl); unlisted = refl }

pub cast_document : (db : ℤ) (id : List ℕ) (sequence : ℤ) (winner : List ℕ) (deleted : Bool) → cast_row docs_table (Null ∷ document_cells db id sequence winner deleted) ≡ Null ∷ document_cells db id sequence winner deleted
cast_document db id sequence winner deleted = λ i. cast_null i ∷ cast_int db i ∷ Blob id ∷ cast_int sequence i ∷ Text winner ∷ cast_int (cond deleted (pos 1) (pos 0)) i ∷ []

-- ---- another sequence, winner and mark

abbrev pub advance_text : List ℕ
advance_text = codes "UPDATE docs SET seq = ?3, winner = ?4, del = ?5 WHERE db = ?1 AND id = ?2"

-- a row with these as the query shows it: its number before and after, and its columns
abbrev advanced : List Term
advanced = col 1 0 ∷ col 1 0 ∷ col 1 1 ∷ col 1 2 ∷ col 0 2 ∷ col 0 3 ∷ col 0 4 ∷ []

advance_is : IsCommand schema advance_text (Update 2 (program_on docs_tree by_id advanced []))
unfolding understood everything
advance_is = record { is = refl; plain = (refl, refl); unlisted = refl }

module _ (sequence : ℤ) (winner : List ℕ) (deleted : Bool) where
  abbrev shown_advanced : Row → Row
  shown_advanced r = column r 0 ∷ column r 0 ∷ column r 1 ∷ column r 2 ∷ Int sequence ∷ Text winner ∷ flag deleted ∷ []

  cast_advanced : (n db : ℤ) (id : List ℕ) → cast_row docs_table (Int n ∷ Int db ∷ Blob id ∷ Int sequence ∷ Text winner ∷ flag deleted ∷ []) ≡ document_row n db id sequence winner deleted
  cast_advanced n db id = λ i. cast_int n i ∷ cast_int db i ∷ Blob id ∷ cast_int sequence i ∷ Text winner ∷ cast_int (cond deleted (pos 1) (pos 0)) i ∷ []

  keyed_advanced : (r : Row) → IsKeyed r → cast_row docs_table (drop 1 (shown_advanced r)) ≡ row_with_winner sequence winner deleted r
  keyed_advanced r k = (λ i. cast_row docs_table (k.number i ∷ k.db i ∷ k.id i ∷ Int sequence ∷ Text winner ∷ flag deleted ∷ [])) ∙ cast_advanced (number_of r) (db_of r) (id_of r)

pub advances_document : {X E : Type 0} (old new : State) → old.now.schema ≡ schema → AreDocumentRows (old.now.trees docs_tree) → (db : ℤ) (id : List ℕ) (sequence : ℤ) (winner : List ℕ) (deleted : Bool) (r : Result X E)
    → OnOk r (Ran advance_text (Int db ∷ Blob id ∷ Int sequence ∷ Text winner ∷ flag deleted ∷ []) old new)
    → OnOk r (Changes docs_tree (rows_with_winner db id sequence winner deleted (old.now.trees docs_tree)) old.now new.now)
advances_document old new has fit db id sequence winner deleted r h =
    updates_where schema 2 docs_table docs_plain old new has advance_text by_id advanced advance_is (Int db ∷ Blob id ∷ Int sequence ∷ Text winner ∷ flag deleted ∷ []) (is_row_of_document db id)
    (shown_advanced sequence winner deleted) (row_with_winner sequence winner deleted) IsKeyed refl (λ x. refl) (λ x. refl) (keyed_advanced sequence winner deleted) (λ x. refl) (λ x. refl)
    (numbered_from_keyed _ fit.keyed) fit.keyed.keyed (one_of _ fit.ids_apart db id) (tests_id db id (Int sequence ∷ Text winner ∷ flag deleted ∷ []) _ fit.keyed) r h

pub document_advance_stays : {X E : Type 0} (old new : State) → old.now.schema ≡ schema → (params : Row) (r : Result X E) → OnOk r (Ran advance_text params old new) → OnOk r (new.now.schema ≡ schema)
document_advance_stays old new has = update_stays schema 2 docs_table docs_plain old new has advance_is

-- ---- all documents of a database, in order

abbrev pub listed : List Term
listed = col 1 2 ∷ col 1 3 ∷ col 1 4 ∷ col 1 5 ∷ []

abbrev pub headings : List (List ℕ)
headings = codes "id" ∷ codes "seq" ∷ codes "winner" ∷ codes "del" ∷ []

abbrev pub document_text : List ℕ
document_text = codes "SELECT id, seq, winner, del FROM docs WHERE db = ?1 AND id = ?2"

pub document_is : IsCommand schema document_text (Select (program_on docs_tree by_id listed []) headings)
unfolding understood everything
document_is = record { is = refl; plain = (refl, refl); unlisted = refl }

pub finds_document : {X E : Type 0} (old new : State) → IsStore old.now → (db : ℤ) (id : List ℕ) (r : Result X E) (items : X → List Row) → IfOk r (λ x. Shown document_text (Int db ∷ Blob id ∷ []) old new (items x))
    → IfOk r (λ x. items x ≡ map listed_document (filter (is_row_of_document db id) (old.now.trees docs_tree)))
finds_document old new is db id =
    finds_one old new is.schema_is document_is (Int db ∷ Blob id ∷ []) (is_row_of_document db id) listed_document refl (λ r. refl) (tests_id db id [] _ (docs_keyed old.now.trees is.laid)) (one_of (old.now.trees docs_tree) is.laid.ids_apart db id)

abbrev pub ids_text : List ℕ
ids_text = codes "SELECT id, seq, winner, del FROM docs WHERE db = ?1 ORDER BY id"

abbrev pub sequences_text : List ℕ
sequences_text = codes "SELECT id, seq, winner, del FROM docs WHERE db = ?1 ORDER BY seq"

abbrev id_order : List (Term × Key)
id_order = (col 1 2, record { collation = Binary; descending = false }) ∷ []

abbrev sequence_order : List (Term × Key)
sequence_order = (col 1 3, record { collation = Binary; descending = false }) ∷ []

pub ids_are : IsCommand schema ids_text (Select (program_on docs_tree by_db listed id_order) headings)
unfolding understood everything
ids_are = record { is = refl; plain = (refl, refl); unlisted = refl }

pub sequences_are : IsCommand schema sequences_text (Select (program_on docs_tree by_db listed sequence_order) headings)
unfolding understood everything
sequences_are = record { is = refl; plain = (refl, refl); unlisted = refl }

abbrev pub IsOne : Row → Type 0
IsOne r = r ≡ document_row (number_of r) (db_of r) (id_of r) (pos (sequence_of_row r)) (winner_text r) (is_gone_row r)

ints_as_nats : (m n : ℕ) → int_cmp (pos m) (pos n) ≡ nat_cmp m n
ints_as_nats m n = grind (arith, ints, nat_tests)

sequences_agree : (a b : Row) → IsOne a → IsOne b → ordering_then (value_cmp (column a 3) (column b 3)) Equal ≡ order.by_sequence a b
sequences_agree a b k l =
    then-Equal (value_cmp (column a 3) (column b 3)) ∙ ap₂ value_cmp (ap (λ x. column x 3) k) (ap (λ x. column x 3) l) ∙ value_cmp-Int (pos (sequence_of_row a)) (pos (sequence_of_row b))
    ∙ ints_as_nats (sequence_of_row a) (sequence_of_row b)

pub same_db : (db : ℤ) (a b : Row) → is_row_of_database db a ≡ true → is_row_of_database db b ≡ true → db_of a ≡ db_of b
same_db db a b p q = same_int (db_of a) db p ∙ sym (same_int (db_of b) db q)

pub ones : (old : State) → IsStore old.now → AllByRecursion IsOne (old.now.trees docs_tree)
ones old is = all_weaker (IsDocumentRow old.now.trees) IsOne (λ x k. k.is) (old.now.trees docs_tree) is.laid.docs

-- ---- those behind a sequence

abbrev pub later_text : List ℕ
later_text = codes "SELECT id, seq, winner, del FROM docs WHERE db = ?1 AND seq > ?2 ORDER BY seq LIMIT ?3"

abbrev most_rows : Term
most_rows = col 0 2

pub later_are : IsCommand schema later_text (Select (first_program docs_tree by_later listed sequence_order most_rows) headings)
unfolding understood everything
later_are = record { is = refl; plain = (refl, refl); unlisted = refl }

-- rows of a kind among those of a database, in an order
pub left_in_order : (by : Row → Row → Ordering) → IsTotalOrder by → (db : ℤ) (q : Row → Bool) (rows : List Row)
    → map listed_document (sort_by by (filter (λ r. is_row_of_database db r && q (listed_document r)) rows)) ≡ filter q (map listed_document (sort_by by (filter (is_row_of_database db) rows)))
left_in_order by total db q rows =
    ap (λ l. map listed_document (sort_by by l)) (sym (filter_both (λ r. q (listed_document r)) (is_row_of_database db) rows))
    ∙ ap (map listed_document) (sym (sorted_left by total (λ r. q (listed_document r)) (filter (is_row_of_database db) rows)))
    ∙ sym (filter-map q listed_document (sort_by by (filter (is_row_of_database db) rows)))

limited_to : (limit : ℤ) (rows : List Row) → limited (as_count (Int limit)) rows ≡ first_rows limit rows
limited_to (pos n) rows = refl
limited_to (negsuc n) rows = refl

module _ {X E : Type 0} (old new : State) (is : IsStore old.now) (db : ℤ) (r : Result X E) (items : X → List Row) where
  -- rows of the database, by id and by sequence
  in_id_order : {text : List ℕ} {tests : List Term} → IsCommand schema text (Select (program_on docs_tree tests listed id_order) headings) → (params : Row) (p : Row → Bool) → ((x : Row) → p x ≡ true → is_row_of_database db x ≡ true)
      → AllByRecursion (λ x. list_all (holds (params ∷ x ∷ [])) tests ≡ p x) (old.now.trees docs_tree) → IfOk r (λ x. Shown text params old new (items x))
      → IfOk r (λ x. items x ≡ map listed_document (sort_by order.by_id (filter p (old.now.trees docs_tree))))
  in_id_order command params p mine passes =
      lists old new is.schema_is command params p listed_document IsOne order.by_id (λ a b. db_of a ≡ db_of b → id_of a ≢ id_of b)
      (λ a b k l. blobs_agree (column a 2) (column b 2) (id_of a) (id_of b) (ap (λ x. column x 2) k) (ap (λ x. column x 2) l))
      (λ a b k l x y apart. untied nat_list_cmp_total text_exact (id_of a) (id_of b) (apart (same_db db a b (mine a x) (mine b y)))) refl (λ x. refl) passes (ones old is) is.laid.ids_apart r items

  in_sequence_order : {text : List ℕ} {tests : List Term} {most : Term} → IsCommand schema text (Select (first_program docs_tree tests listed sequence_order most) headings) → (params : Row) (p : Row → Bool)
      → ((x : Row) → p x ≡ true → is_row_of_database db x ≡ true) → AllByRecursion (λ x. list_all (holds (params ∷ x ∷ [])) tests ≡ p x) (old.now.trees docs_tree) → IfOk r (λ x. Shown text params old new (items x))
      → IfOk r (λ x. items x ≡ limited (as_count (eval most (params ∷ []))) (map listed_document (sort_by order.by_sequence (filter p (old.now.trees docs_tree)))))
  in_sequence_order command params p mine passes =
      lists old new is.schema_is command params p listed_document IsOne order.by_sequence (λ a b. db_of a ≡ db_of b → sequence_of_row a ≢ sequence_of_row b) sequences_agree
      (λ a b k l x y apart. untied nat_cmp_total nat_cmp-IsAntisymmetric (sequence_of_row a) (sequence_of_row b) (apart (same_db db a b (mine a x) (mine b y)))) refl (λ x. refl) passes (ones old is) is.laid.sequences_apart r items

  pub lists_by_id : IfOk r (λ x. Shown ids_text (Int db ∷ []) old new (items x)) → IfOk r (λ x. items x ≡ map listed_document (sort_by order.by_id (filter (is_row_of_database db) (old.now.trees docs_tree))))
  lists_by_id = in_id_order ids_are (Int db ∷ []) (is_row_of_database db) (λ x own. own) (tests_db db _ (docs_keyed old.now.trees is.laid))

  pub lists_by_sequence : IfOk r (λ x. Shown sequences_text (Int db ∷ []) old new (items x)) → IfOk r (λ x. items x ≡ map listed_document (sort_by order.by_sequence (filter (is_row_of_database db) (old.now.trees docs_tree))))
  lists_by_sequence = in_sequence_order sequences_are (Int db ∷ []) (is_row_of_database db) (λ x own. own) (tests_db db _ (docs_keyed old.now.trees is.laid))

  pub lists_later : (since limit : ℤ) → IfOk r (λ x. Shown later_text (Int db ∷ Int since ∷ Int limit ∷ []) old new (items x))
      → IfOk r (λ x. items x ≡ first_rows limit (filter (comes_after since) (map listed_document (sort_by order.by_sequence (filter (is_row_of_database db) (old.now.trees docs_tree))))))
  lists_later since limit h =
      subst (λ l. IfOk r (λ x. items x ≡ l)) (limited_to limit _ ∙ ap (first_rows limit) (left_in_order order.by_sequence (on_total sequence_of_row nat_cmp_total) db (comes_after since) (old.now.trees docs_tree)))
      (in_sequence_order later_are (Int db ∷ Int since ∷ Int limit ∷ []) (λ l. is_row_of_database db l && comes_after since (listed_document l)) (λ x k. (and_parts (is_row_of_database db x) _ k).0)
      (tests_later db since limit _ (all_weaker IsOne (λ x. (column x 1 ≡ Int (db_of x)) × (column x 3 ≡ Int (pos (sequence_of_row x)))) (λ x k. (ap (λ y. column y 1) k, ap (λ y. column y 3) k)) _ (ones old is))) h)
