-- What the statements on databases mean.
use Rattle.tables.proofs.Common.{AllByRecursion, AreDatabaseRows, AreNumbered, Binary, Blob, Changes, Delete, IfOk, Insert, Int, IsStore, Key, List, Null, OnOk, Ran, Result, Row, Select, Shown, State, Term, Text, Update, Values, [], all_of, all_weaker, ap, by_name, cast_row, codes, col, column, database_cells, database_row, dbs_table, dbs_tree, drop, everything, false, filter, filter_all, has_number, holds, is_named, sequence_of_database, list_all, lit, map, name_of, nat_list_cmp_total, number_of, pos, refl, rowid, rows_at_sequence, rows_with_security, schema, security_text, shown_database, shown_name, sort_by, subst, true, understood, ℕ, ℤ, ◌∙◌, ◌∷◌, ◌≡◌, ◌≢◌}
use Rattle.tables.proofs.RowMaps.{text_exact, untied}
use Rattle.tables.proofs.Pages.{lists}
use Rattle.sqlite_typed.proofs.TestLemmas.{last_term}
use Rattle.sqlite_sql.specs.declared.ops.CompareOp.TheVariants.{Eq}
use Rattle.tables.proofs.Cells.{blobs_agree, compares, int_by, same_blob, cast_null, cast_int}
use Rattle.tables.proofs.Finds.{finds_one}
use Rattle.tables.proofs.Queries.{program_on}
use Rattle.tables.proofs.Tables.{dbs_plain, databases_laid, numbered_databases, one_named, one_numbered}
use Rattle.tables.proofs.Updates.{updates_where}
use Rattle.tables.proofs.Writes.{IsCommand, update_stays}

abbrev pub by_number : List Term
by_number = compares Eq 0 0 ∷ []

abbrev pub with_name : List Term
with_name = compares Eq 2 0 ∷ []

pub tests_number : (n : ℤ) (rest : Row) (rows : List Row) → AreNumbered rows → AllByRecursion (λ r. list_all (holds ((Int n ∷ rest) ∷ r ∷ [])) by_number ≡ has_number n r) rows
tests_number n rest rows h =
    all_weaker (λ r. rowid r ≡ Int (number_of r)) (λ r. list_all (holds ((Int n ∷ rest) ∷ r ∷ [])) by_number ≡ has_number n r) (λ r k. last_term (int_by Eq (column r 0) (number_of r) n k)) rows h.numbers

pub tests_name : (name : List ℕ) (rows : List Row) → AreDatabaseRows rows → AllByRecursion (λ r. list_all (holds ((Blob name ∷ []) ∷ r ∷ [])) with_name ≡ is_named name r) rows
tests_name name rows h =
    all_weaker _ (λ r. list_all (holds ((Blob name ∷ []) ∷ r ∷ [])) with_name ≡ is_named name r) (λ r k. last_term (same_blob (column r 2) (name_of r) name (ap (λ x. column x 2) k))) rows h.each

pub inserts_database : IsCommand schema (codes "INSERT INTO dbs (name, sec, seq) VALUES (?1, ?2, 0)") (Insert 1 (Values (lit Null ∷ lit Null ∷ col 0 0 ∷ col 0 1 ∷ lit (Int (pos 0)) ∷ []) 5))
unfolding understood everything
inserts_database = record { is = refl; plain = (refl, refl); unlisted = refl }

pub deletes_database : IsCommand schema (codes "DELETE FROM dbs WHERE num = ?1") (Delete 1 (program_on dbs_tree by_number (col 1 0 ∷ []) []))
unfolding understood everything
deletes_database = record { is = refl; plain = (refl, refl); unlisted = refl }

abbrev pub database_text : List ℕ
database_text = codes "SELECT num, sec, seq FROM dbs WHERE name = ?1"

pub database_is : IsCommand schema database_text (Select (program_on dbs_tree with_name (col 1 0 ∷ col 1 3 ∷ col 1 4 ∷ []) []) (codes "num" ∷ codes "sec" ∷ codes "seq" ∷ []))
unfolding understood everything
database_is = record { is = refl; plain = (refl, refl); unlisted = refl }

pub finds_database : {X E : Type 0} (old new : State) → IsStore old.now → (name : List ℕ) (r : Result X E) (items : X → List Row) → IfOk r (λ x. Shown database_text (Blob name ∷ []) old new (items x))
    → IfOk r (λ x. items x ≡ map shown_database (filter (is_named name) (old.now.trees dbs_tree)))
finds_database old new is name =
    finds_one old new is.schema_is database_is (Blob name ∷ []) (is_named name) shown_database refl (λ r. refl) (tests_name name _ (databases_laid old.now.trees is.laid)) (one_named (old.now.trees dbs_tree) is.laid.names_apart name)

pub cast_database : (name security : List ℕ) → cast_row dbs_table (Null ∷ database_cells name security (pos 0)) ≡ Null ∷ database_cells name security (pos 0)
cast_database name security = λ i. cast_null i ∷ cast_null i ∷ Blob name ∷ Text security ∷ cast_int (pos 0) i ∷ []

-- ---- a change of one column

abbrev pub secure_text : List ℕ
secure_text = codes "UPDATE dbs SET sec = ?2 WHERE num = ?1"

abbrev pub advance_text : List ℕ
advance_text = codes "UPDATE dbs SET seq = ?2 WHERE num = ?1"

secure_is : IsCommand schema secure_text (Update 1 (program_on dbs_tree by_number (col 1 0 ∷ col 1 0 ∷ lit Null ∷ col 1 2 ∷ col 0 1 ∷ col 1 4 ∷ []) []))
unfolding understood everything
secure_is = record { is = refl; plain = (refl, refl); unlisted = refl }

advance_is : IsCommand schema advance_text (Update 1 (program_on dbs_tree by_number (col 1 0 ∷ col 1 0 ∷ lit Null ∷ col 1 2 ∷ col 1 3 ∷ col 0 1 ∷ []) []))
unfolding understood everything
advance_is = record { is = refl; plain = (refl, refl); unlisted = refl }

-- a row with its security object changed, as the query shows it: its number before and after, and its columns
abbrev shown_secured : List ℕ → Row → Row
shown_secured text r = column r 0 ∷ column r 0 ∷ Null ∷ column r 2 ∷ Text text ∷ column r 4 ∷ []

abbrev shown_advanced : ℤ → Row → Row
shown_advanced sequence r = column r 0 ∷ column r 0 ∷ Null ∷ column r 2 ∷ column r 3 ∷ Int sequence ∷ []

abbrev IsOne : Row → Type 0
IsOne r = r ≡ database_row (number_of r) (name_of r) (security_text r) (pos (sequence_of_database r))

cast_secured : (text : List ℕ) (n : ℤ) (name was : List ℕ) (sequence : ℤ) → cast_row dbs_table (drop 1 (shown_secured text (database_row n name was sequence))) ≡ database_row n name text sequence
cast_secured text n name was sequence = λ i. cast_int n i ∷ cast_null i ∷ Blob name ∷ Text text ∷ cast_int sequence i ∷ []

cast_advanced : (next n : ℤ) (name text : List ℕ) (was : ℤ) → cast_row dbs_table (drop 1 (shown_advanced next (database_row n name text was))) ≡ database_row n name text next
cast_advanced next n name text was = λ i. cast_int n i ∷ cast_null i ∷ Blob name ∷ Text text ∷ cast_int next i ∷ []

module _ {X E : Type 0} (old new : State) (has : old.now.schema ≡ schema) (laid : AreDatabaseRows (old.now.trees dbs_tree)) where
  pub secures_database : (n : ℤ) (text : List ℕ) (r : Result X E) → OnOk r (Ran secure_text (Int n ∷ Text text ∷ []) old new)
      → OnOk r (Changes dbs_tree (rows_with_security n text (old.now.trees dbs_tree)) old.now new.now)
  secures_database n text r h =
      updates_where schema 1 dbs_table dbs_plain old new has secure_text by_number (col 1 0 ∷ col 1 0 ∷ lit Null ∷ col 1 2 ∷ col 0 1 ∷ col 1 4 ∷ []) secure_is (Int n ∷ Text text ∷ []) (has_number n)
      (shown_secured text) (λ x. database_row (number_of x) (name_of x) text (pos (sequence_of_database x))) IsOne refl (λ x. refl) (λ x. refl)
      (λ x k. ap (λ y. cast_row dbs_table (drop 1 (shown_secured text y))) k ∙ cast_secured text (number_of x) (name_of x) (security_text x) (pos (sequence_of_database x))) (λ x. refl) (λ x. refl)
      (numbered_databases _ laid) laid.each (one_numbered _ laid.rising n) (tests_number n (Text text ∷ []) _ (numbered_databases _ laid)) r h

  pub advances_database : (n sequence : ℤ) (r : Result X E) → OnOk r (Ran advance_text (Int n ∷ Int sequence ∷ []) old new)
      → OnOk r (Changes dbs_tree (rows_at_sequence n sequence (old.now.trees dbs_tree)) old.now new.now)
  advances_database n sequence r h =
      updates_where schema 1 dbs_table dbs_plain old new has advance_text by_number (col 1 0 ∷ col 1 0 ∷ lit Null ∷ col 1 2 ∷ col 1 3 ∷ col 0 1 ∷ []) advance_is (Int n ∷ Int sequence ∷ []) (has_number n)
      (shown_advanced sequence) (λ x. database_row (number_of x) (name_of x) (security_text x) sequence) IsOne refl (λ x. refl) (λ x. refl)
      (λ x k. ap (λ y. cast_row dbs_table (drop 1 (shown_advanced sequence y))) k ∙ cast_advanced sequence (number_of x) (name_of x) (security_text x) (pos (sequence_of_database x))) (λ x. refl) (λ x. refl)
      (numbered_databases _ laid) laid.each (one_numbered _ laid.rising n) (tests_number n (Int sequence ∷ []) _ (numbered_databases _ laid)) r h

-- whatever the rows are, the schema stays
module _ {X E : Type 0} (old new : State) (has : old.now.schema ≡ schema) where
  pub secures_stay : (params : Row) (r : Result X E) → OnOk r (Ran secure_text params old new) → OnOk r (new.now.schema ≡ schema)
  secures_stay = update_stays schema 1 dbs_table dbs_plain old new has secure_is

  pub advances_stay : (params : Row) (r : Result X E) → OnOk r (Ran advance_text params old new) → OnOk r (new.now.schema ≡ schema)
  advances_stay = update_stays schema 1 dbs_table dbs_plain old new has advance_is

-- ---- all names, in order

abbrev pub names_text : List ℕ
names_text = codes "SELECT name FROM dbs ORDER BY name"

abbrev pub name_order : List (Term × Key)
name_order = (col 1 2, record { collation = Binary; descending = false }) ∷ []

pub names_are : IsCommand schema names_text (Select (program_on dbs_tree [] (col 1 2 ∷ []) name_order) (codes "name" ∷ []))
unfolding understood everything
names_are = record { is = refl; plain = (refl, refl); unlisted = refl }

pub lists_names : {X E : Type 0} (old new : State) → IsStore old.now → (r : Result X E) (items : X → List Row) → IfOk r (λ x. Shown names_text [] old new (items x))
    → IfOk r (λ x. items x ≡ map shown_name (sort_by by_name (old.now.trees dbs_tree)))
lists_names old new is r items h =
    let all = all_of (λ x. true ≡ true) (λ x. refl) (old.now.trees dbs_tree) in
    subst (λ l. IfOk r (λ x. items x ≡ map shown_name (sort_by by_name l))) (filter_all (λ x. true) (old.now.trees dbs_tree) all)
    (lists old new is.schema_is names_are [] (λ x. true) shown_name IsOne by_name (λ a b. name_of a ≢ name_of b) (λ a b k l. blobs_agree (column a 2) (column b 2) (name_of a) (name_of b) (ap (λ x. column x 2) k) (ap (λ x. column x 2) l))
    (λ a b k l p q. untied nat_list_cmp_total text_exact (name_of a) (name_of b)) refl (λ x. refl) all (databases_laid old.now.trees is.laid).each is.laid.names_apart r items h)
