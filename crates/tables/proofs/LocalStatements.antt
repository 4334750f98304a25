-- What the statements on local documents mean.
use Rattle.tables.proofs.Common.{Blob, Delete, IfOk, Insert, Int, IsStore, List, Null, Result, Row, Select, Shown, State, Text, Values, [], cast_row, codes, col, everything, filter, is_row_of_document, lit, local_cells, locals_table, locals_tree, map, pos, refl, schema, shown_local, understood, ℕ, ℤ, ◌∷◌, ◌≡◌}
use Rattle.tables.proofs.Cells.{by_db, by_id, cast_null, cast_int, tests_id}
use Rattle.tables.proofs.Queries.{program_on}
use Rattle.tables.proofs.Writes.{IsCommand}
use Rattle.tables.proofs.Finds.{finds_one}
use Rattle.tables.proofs.Tables.{locals_keyed, one_of}

pub inserts_local : IsCommand schema (codes "INSERT INTO locals (db, id, n, body) VALUES (?1, ?2, ?3, ?4)") (Insert 4 (Values (lit Null ∷ col 0 0 ∷ col 0 1 ∷ col 0 2 ∷ col 0 3 ∷ []) 5))
unfolding understood everything
inserts_local = record { is = refl; plain = (refl, refl); unlisted = refl }

pub deletes_local : IsCommand schema (codes "DELETE FROM locals WHERE db = ?1 AND id = ?2") (Delete 4 (program_on locals_tree by_id (col 1 0 ∷ []) []))
unfolding understood everything
deletes_local = record { is = refl; plain = (refl, refl); unlisted = refl }

pub clears_locals : IsCommand schema (codes "DELETE FROM locals WHERE db = ?1") (Delete 4 (program_on locals_tree by_db (col 1 0 ∷ []) []))
unfolding understood everything
clears_locals = record { is = refl; plain = (refl, refl); unlisted = refl }

pub cast_local : (db : ℤ) (id : List ℕ) (n : ℕ) (body : List ℕ) → cast_row locals_table (Null ∷ local_cells db id n body) ≡ Null ∷ local_cells db id n body
cast_local db id n body = λ i. cast_null i ∷ cast_int db i ∷ Blob id ∷ cast_int (pos n) i ∷ Text body ∷ []

abbrev pub local_text : List ℕ
local_text = codes "SELECT n, body FROM locals WHERE db = ?1 AND id = ?2"

pub local_is : IsCommand schema local_text (Select (program_on locals_tree by_id (col 1 3 ∷ col 1 4 ∷ []) []) (codes "n" ∷ codes "body" ∷ []))
unfolding understood everything
local_is = record { is = refl; plain = (refl, refl); unlisted = refl }

pub finds_local : {X E : Type 0} (old new : State) → IsStore old.now → (db : ℤ) (id : List ℕ) (r : Result X E) (items : X → List Row) → IfOk r (λ x. Shown local_text (Int db ∷ Blob id ∷ []) old new (items x))
    → IfOk r (λ x. items x ≡ map shown_local (filter (is_row_of_document db id) (old.now.trees locals_tree)))
finds_local old new is db id =
    finds_one old new is.schema_is local_is (Int db ∷ Blob id ∷ []) (is_row_of_document db id) shown_local refl (λ r. refl) (tests_id db id [] _ (locals_keyed old.now.trees is.laid)) (one_of (old.now.trees locals_tree) is.laid.local_ids_apart db id)
