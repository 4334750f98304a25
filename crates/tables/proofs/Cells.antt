-- What the tests of a statement say of the cells of a row.
use Rattle.tables.proofs.Common.{AllByRecursion, AreKeyed, Binary, Blob, Bool, Equal, Int, IsKeyed, List, Null, Row, Term, Text, Value, [], all_weaker, ap, ap₂, bytes_eq, cast, col, column, comes_after, cond, db_of, false, holds, id_of, is_eq-slice_cmp, is_row_of_database, is_row_of_document, list_all, listed_document, nat_cmp, op2, ordering_then, pos, refl, sequence_of_row, slice_cmp, then-Equal, true, value_cmp, value_cmp-Blob, ℕ, ℤ, ◌&&◌, ◌∙◌, ◌∷◌, ◌≡◌}
use Rattle.sqlite_sql.specs.declared.ops.BinaryOp.TheVariants.{Compare}
use Rattle.sqlite_sql.specs.declared.ops.CompareOp.{CompareOp}
use Rattle.sqlite_sql.specs.declared.ops.CompareOp.TheVariants.{Eq, Gt}
use Rattle.sqlite_sql.specs.Ops.{binary, unary, is_true}
use Rattle.sqlite_schema.specs.declared.schema.Kind.TheVariants.{Integer}
use Rattle.sqlite_typed.proofs.TestLemmas.{at_ints, at_blobs, at_texts, by_order, int_test, then_term, last_term}
use Rattle.sqlite_typed.specs.Tests.{bytes_cmp}

-- a cell of the row against a parameter
abbrev pub compares : CompareOp → ℕ → ℕ → Term
compares op at k = op2 (Compare op Binary) (col 1 at) (col 0 k)

pub int_by : (op : CompareOp) (v : Value) (m n : ℤ) → v ≡ Int m → is_true (binary (Compare op Binary) v (Int n)) ≡ int_test op m n
int_by op v m n is = ap (λ x. is_true (binary (Compare op Binary) x (Int n))) is ∙ at_ints false op m n

pub blob_by : (op : CompareOp) (v : Value) (a b : List ℕ) → v ≡ Blob a → is_true (binary (Compare op Binary) v (Blob b)) ≡ by_order bytes_cmp op a b
blob_by op v a b is = ap (λ x. is_true (binary (Compare op Binary) x (Blob b))) is ∙ at_blobs false op a b

pub same_blob : (v : Value) (a b : List ℕ) → v ≡ Blob a → is_true (binary (Compare Eq Binary) v (Blob b)) ≡ bytes_eq a b
same_blob v a b is = blob_by Eq v a b is ∙ is_eq-slice_cmp a b

pub same_text : (v : Value) (a b : List ℕ) → v ≡ Text a → is_true (binary (Compare Eq Binary) v (Text b)) ≡ bytes_eq a b
same_text v a b is = ap (λ x. is_true (binary (Compare Eq Binary) x (Text b))) is ∙ at_texts false Eq a b ∙ is_eq-slice_cmp a b

-- cells of bytes are in the order of the bytes
pub blobs_agree : (x y : Value) (a b : List ℕ) → x ≡ Blob a → y ≡ Blob b → ordering_then (value_cmp x y) Equal ≡ slice_cmp nat_cmp a b
blobs_agree x y a b p q = then-Equal (value_cmp x y) ∙ ap₂ value_cmp p q ∙ value_cmp-Blob a b

either : (b : Bool) (x : Value) → cond b x x ≡ x
either true x = refl
either false x = refl

pub cast_null : cast Integer Null ≡ Null
unfolding unary
cast_null = either _ Null

pub cast_int : (n : ℤ) → cast Integer (Int n) ≡ Int n
unfolding unary
cast_int n = either _ (Int n)

-- ---- the tests by database and id, of rows that name them

abbrev pub by_db : List Term
by_db = compares Eq 1 0 ∷ []

abbrev pub by_id : List Term
by_id = compares Eq 1 0 ∷ compares Eq 2 1 ∷ []

pub tests_db : (db : ℤ) (rows : List Row) → AreKeyed rows → AllByRecursion (λ r. list_all (holds ((Int db ∷ []) ∷ r ∷ [])) by_db ≡ is_row_of_database db r) rows
tests_db db rows h = all_weaker IsKeyed (λ r. list_all (holds ((Int db ∷ []) ∷ r ∷ [])) by_db ≡ is_row_of_database db r) (λ r k. last_term (int_by Eq (column r 1) (db_of r) db k.db)) rows h.keyed

pub tests_id : (db : ℤ) (id : List ℕ) (rest : Row) (rows : List Row) → AreKeyed rows → AllByRecursion (λ r. list_all (holds ((Int db ∷ Blob id ∷ rest) ∷ r ∷ [])) by_id ≡ is_row_of_document db id r) rows
tests_id db id rest rows h =
    all_weaker IsKeyed (λ r. list_all (holds ((Int db ∷ Blob id ∷ rest) ∷ r ∷ [])) by_id ≡ is_row_of_document db id r)
    (λ r k. then_term (int_by Eq (column r 1) (db_of r) db k.db) (last_term (same_blob (column r 2) (id_of r) id k.id))) rows h.keyed

-- ---- the tests by a sequence

abbrev pub by_later : List Term
by_later = compares Eq 1 0 ∷ compares Gt 3 1 ∷ []

pub tests_later : (db since limit : ℤ) (rows : List Row) → AllByRecursion (λ r. (column r 1 ≡ Int (db_of r)) × (column r 3 ≡ Int (pos (sequence_of_row r)))) rows
    → AllByRecursion (λ r. list_all (holds ((Int db ∷ Int since ∷ Int limit ∷ []) ∷ r ∷ [])) by_later ≡ (is_row_of_database db r && comes_after since (listed_document r))) rows
tests_later db since limit rows all =
    all_weaker (λ r. (column r 1 ≡ Int (db_of r)) × (column r 3 ≡ Int (pos (sequence_of_row r)))) (λ r. list_all (holds ((Int db ∷ Int since ∷ Int limit ∷ []) ∷ r ∷ [])) by_later ≡ (is_row_of_database db r && comes_after since (listed_document r)))
    (λ r k. then_term (int_by Eq (column r 1) (db_of r) db k.0) (last_term (int_by Gt (column r 3) (pos (sequence_of_row r)) since k.1))) rows all
