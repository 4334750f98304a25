-- What SQLite keeps of the rows under this schema: the kinds of their cells, and that no two have the same unique key.
use Rattle.tables.proofs.Common.{AllByRecursion, AreNumbered, Binary, Blob, Bool, Decides-int_eq, Int, IsAscending, List, Null, Real, Row, Text, Trees, Value, [], all_both, all_weaker, ap, arith, ascending_weaker, suc, bytes, bytes_eq-Decides, column, drop, db_of, dbs_table, dbs_tree, docs_table, docs_tree, false, id_of, ints, list_all, list_any, locals_table, locals_tree, meta_table, meta_tree, name_of, not, number_of, refl, revs_table, revs_tree, rowid, schema, sym, true, whole_in_cell, ℕ, ℤ, ◌&&◌, ◌<ℤ◌, ◌||◌, ◌∙◌, ◌∷◌, ◌≡◌, ◌≢◌, inl, inr, length, Table}
use Rattle.std.specs.Cmp.{first_so, second_so}
use Rattle.sqlite_catalog.specs.Listing.{IsSound}
use Rattle.sqlite_schema.specs.Rules.{agree, are_present, are_typed, clashes, differ, equal, guards, has_computed, is_of as is_of_kind, passes}
use Rattle.std.proofs.lemmas.Bool.{false≢true}
use Rattle.sqlite_schema.specs.declared.schema.Constraint.TheVariants.{Datatype, NotNull, Unique}
use Rattle.sqlite_schema.specs.declared.schema.Kind.TheVariants as kind
use Rattle.sqlite_sql.specs.Ops.{is_null}
use Rattle.sqlite_sql.specs.declared.ops.CompareOp.TheVariants.{Eq, Ne}
use Rattle.sqlite_value.specs.Keys.{first_key, plain}
use Rattle.sqlite_typed.proofs.TestLemmas.{int_test}
use Rattle.tables.proofs.Cells.{int_by, same_blob, same_text}
use Rattle.file_check.specs.Tables.{AreKept, AreShaped, HasDatabaseCells, HasDocumentCells, HasLocalCells, HasRevisionCells, HasVersionCells, IsTextOrNull, stored_revision}
use Rattle.file_check.proofs.Assembled.{In, each_in}

-- ---- cells

int_cell : (v : Value) → is_of_kind kind.Integer v ≡ true → not (is_null v) ≡ true → v ≡ Int (whole_in_cell v)
int_cell Null is some = absurd cc
int_cell (Int n) is some = refl
int_cell (Real x) is some = absurd cc
int_cell (Text t) is some = absurd cc
int_cell (Blob b) is some = absurd cc

text_cell : (v : Value) → is_of_kind kind.Text v ≡ true → not (is_null v) ≡ true → v ≡ Text (bytes v)
text_cell Null is some = absurd cc
text_cell (Int n) is some = absurd cc
text_cell (Real x) is some = absurd cc
text_cell (Text t) is some = refl
text_cell (Blob b) is some = absurd cc

blob_cell : (v : Value) → is_of_kind kind.Blob v ≡ true → not (is_null v) ≡ true → v ≡ Blob (bytes v)
blob_cell Null is some = absurd cc
blob_cell (Int n) is some = absurd cc
blob_cell (Real x) is some = absurd cc
blob_cell (Text t) is some = absurd cc
blob_cell (Blob b) is some = refl

text_or_null : (v : Value) → is_of_kind kind.Text v ≡ true → IsTextOrNull v
text_or_null Null is = inl refl
text_or_null (Int n) is = absurd cc
text_or_null (Real x) is = absurd cc
text_or_null (Text t) is = inr refl
text_or_null (Blob b) is = absurd cc

null_cell : (v : Value) → is_null v ≡ true → v ≡ Null
null_cell Null is = refl
null_cell (Int n) is = absurd cc
null_cell (Real x) is = absurd cc
null_cell (Text t) is = absurd cc
null_cell (Blob b) is = absurd cc

-- ---- the rows of each table

-- a table's row has its number, and its cells are of the kinds of the columns, and are there where they have to be
abbrev IsTypedIn : Table → Row → Type 0
IsTypedIn table r = (rowid r ≡ Int (number_of r)) × (are_typed table.key 0 table.columns (drop 1 r) ≡ true) × (are_present table.key 0 table.columns r ≡ true)

no_rowid : {X : Type 0} (r : Row) → r ≡ [] → rowid r ≡ Int (number_of r) → X
no_rowid r e h = absurd (null_is_no_int (ap rowid (sym e) ∙ h))
  where
    null_is_no_int : {n : ℤ} → Null ≡ Int n → ⊥
    null_is_no_int z = cc

and_false : (a : Bool) → (a && false) ≡ true → ⊥
and_false a h = false≢true (second_so a false h)

version_cells : (r : Row) → IsTypedIn meta_table r → HasVersionCells r
version_cells [] h = no_rowid [] refl h.0
version_cells (a ∷ []) h = absurd (false≢true h.2)
version_cells (a ∷ b ∷ []) h = λ i. h.0 i ∷ int_cell b (first_so (is_of_kind kind.Integer b) true h.1) (first_so (not (is_null b)) true h.2) i ∷ []
version_cells (a ∷ b ∷ c ∷ more) h = absurd (and_false (is_of_kind kind.Integer b) h.1)

database_cells : (r : Row) → IsTypedIn dbs_table r → HasDatabaseCells r
database_cells [] h = no_rowid [] refl h.0
database_cells (a ∷ []) h = absurd (false≢true h.2)
database_cells (a ∷ b ∷ []) h = absurd (false≢true h.2)
database_cells (a ∷ b ∷ c ∷ []) h = absurd (and_false (not (is_null c)) h.2)
database_cells (a ∷ b ∷ c ∷ d ∷ []) h = absurd (and_false (not (is_null d)) (second_so (not (is_null c)) (not (is_null d) && false) h.2))
database_cells (a ∷ b ∷ c ∷ d ∷ e ∷ []) h =
    let typed = second_so (is_null b) _ h.1 in
    let typed_d = second_so (is_of_kind kind.Blob c) _ typed in
    let typed_e = second_so (is_of_kind kind.Text d) _ typed_d in
    let some_d = second_so (not (is_null c)) _ h.2 in
    let some_e = second_so (not (is_null d)) _ some_d in
    λ i. h.0 i ∷ null_cell b (first_so (is_null b) _ h.1) i ∷ blob_cell c (first_so (is_of_kind kind.Blob c) _ typed) (first_so (not (is_null c)) _ h.2) i
    ∷ text_cell d (first_so (is_of_kind kind.Text d) _ typed_d) (first_so (not (is_null d)) _ some_d) i ∷ int_cell e (first_so (is_of_kind kind.Integer e) true typed_e) (first_so (not (is_null e)) true some_e) i ∷ []
database_cells (a ∷ b ∷ c ∷ d ∷ e ∷ f ∷ more) h =
    let typed = second_so (is_null b) _ h.1 in
    let typed_d = second_so (is_of_kind kind.Blob c) _ typed in
    let typed_e = second_so (is_of_kind kind.Text d) _ typed_d in
    absurd (and_false (is_of_kind kind.Integer e) typed_e)

document_cells : (r : Row) → IsTypedIn docs_table r → HasDocumentCells r
document_cells [] h = no_rowid [] refl h.0
document_cells (a ∷ []) h = absurd (false≢true h.2)
document_cells (a ∷ b ∷ []) h = absurd (and_false (not (is_null b)) h.2)
document_cells (a ∷ b ∷ c ∷ []) h = absurd (and_false (not (is_null c)) (second_so (not (is_null b)) _ h.2))
document_cells (a ∷ b ∷ c ∷ d ∷ []) h = absurd (and_false (not (is_null d)) (second_so (not (is_null c)) _ (second_so (not (is_null b)) _ h.2)))
document_cells (a ∷ b ∷ c ∷ d ∷ e ∷ []) h = absurd (and_false (not (is_null e)) (second_so (not (is_null d)) _ (second_so (not (is_null c)) _ (second_so (not (is_null b)) _ h.2))))
document_cells (a ∷ b ∷ c ∷ d ∷ e ∷ f ∷ []) h =
    let typed_c = second_so (is_of_kind kind.Integer b) _ h.1 in
    let typed_d = second_so (is_of_kind kind.Blob c) _ typed_c in
    let typed_e = second_so (is_of_kind kind.Integer d) _ typed_d in
    let typed_f = second_so (is_of_kind kind.Text e) _ typed_e in
    let some_c = second_so (not (is_null b)) _ h.2 in
    let some_d = second_so (not (is_null c)) _ some_c in
    let some_e = second_so (not (is_null d)) _ some_d in
    let some_f = second_so (not (is_null e)) _ some_e in
    λ i. h.0 i ∷ int_cell b (first_so (is_of_kind kind.Integer b) _ h.1) (first_so (not (is_null b)) _ h.2) i ∷ blob_cell c (first_so (is_of_kind kind.Blob c) _ typed_c) (first_so (not (is_null c)) _ some_c) i ∷ int_cell d (first_so (is_of_kind kind.Integer d) _ typed_d) (first_so (not (is_null d)) _ some_d) i ∷ text_cell e (first_so (is_of_kind kind.Text e) _ typed_e) (first_so (not (is_null e)) _ some_e) i ∷ int_cell f (first_so (is_of_kind kind.Integer f) _ typed_f) (first_so (not (is_null f)) _ some_f) i ∷ []
document_cells (a ∷ b ∷ c ∷ d ∷ e ∷ f ∷ z ∷ more) h =
    let typed_c = second_so (is_of_kind kind.Integer b) _ h.1 in
    let typed_d = second_so (is_of_kind kind.Blob c) _ typed_c in
    let typed_e = second_so (is_of_kind kind.Integer d) _ typed_d in
    let typed_f = second_so (is_of_kind kind.Text e) _ typed_e in
    absurd (and_false (is_of_kind kind.Integer f) typed_f)

too_long : {n : ℕ} → suc (suc (suc (suc (suc (suc (suc (suc (suc (suc n))))))))) ≡ 9 → ⊥
too_long w = cc

revision_cells : (r : Row) → IsTypedIn revs_table r → length r ≡ 9 → HasRevisionCells r
revision_cells [] h w = no_rowid [] refl h.0
revision_cells (a ∷ []) h w = absurd (let n : 1 ≡ 9 = w in omega (arith, n))
revision_cells (a ∷ b ∷ []) h w = absurd (let n : 2 ≡ 9 = w in omega (arith, n))
revision_cells (a ∷ b ∷ c ∷ []) h w = absurd (let n : 3 ≡ 9 = w in omega (arith, n))
revision_cells (a ∷ b ∷ c ∷ d ∷ []) h w = absurd (let n : 4 ≡ 9 = w in omega (arith, n))
revision_cells (a ∷ b ∷ c ∷ d ∷ e ∷ []) h w = absurd (let n : 5 ≡ 9 = w in omega (arith, n))
revision_cells (a ∷ b ∷ c ∷ d ∷ e ∷ f ∷ []) h w = absurd (let n : 6 ≡ 9 = w in omega (arith, n))
revision_cells (a ∷ b ∷ c ∷ d ∷ e ∷ f ∷ g ∷ []) h w = absurd (let n : 7 ≡ 9 = w in omega (arith, n))
revision_cells (a ∷ b ∷ c ∷ d ∷ e ∷ f ∷ g ∷ j ∷ []) h w = absurd (let n : 8 ≡ 9 = w in omega (arith, n))
revision_cells (a ∷ b ∷ c ∷ d ∷ e ∷ f ∷ g ∷ j ∷ k ∷ []) h w =
    let typed_c = second_so (is_of_kind kind.Integer b) _ h.1 in
    let typed_d = second_so (is_of_kind kind.Blob c) _ typed_c in
    let typed_e = second_so (is_of_kind kind.Integer d) _ typed_d in
    let typed_f = second_so (is_of_kind kind.Text e) _ typed_e in
    let typed_g = second_so (is_of_kind kind.Text f) _ typed_f in
    let typed_j = second_so (is_of_kind kind.Integer g) _ typed_g in
    let typed_k = second_so (is_of_kind kind.Integer j) _ typed_j in
    let some_c = second_so (not (is_null b)) _ h.2 in
    let some_d = second_so (not (is_null c)) _ some_c in
    let some_e = second_so (not (is_null d)) _ some_d in
    let some_g = second_so (not (is_null e)) _ some_e in
    let some_j = second_so (not (is_null g)) _ some_g in
    record { is = λ i. h.0 i ∷ int_cell b (first_so (is_of_kind kind.Integer b) _ h.1) (first_so (not (is_null b)) _ h.2) i ∷ blob_cell c (first_so (is_of_kind kind.Blob c) _ typed_c) (first_so (not (is_null c)) _ some_c) i ∷ int_cell d (first_so (is_of_kind kind.Integer d) _ typed_d) (first_so (not (is_null d)) _ some_d) i ∷ text_cell e (first_so (is_of_kind kind.Text e) _ typed_e) (first_so (not (is_null e)) _ some_e) i ∷ f ∷ int_cell g (first_so (is_of_kind kind.Integer g) _ typed_g) (first_so (not (is_null g)) _ some_g) i ∷ int_cell j (first_so (is_of_kind kind.Integer j) _ typed_j) (first_so (not (is_null j)) _ some_j) i ∷ k ∷ []; parent = text_or_null f (first_so (is_of_kind kind.Text f) _ typed_f); body = text_or_null k (first_so (is_of_kind kind.Text k) _ typed_k) }
revision_cells (a ∷ b ∷ c ∷ d ∷ e ∷ f ∷ g ∷ j ∷ k ∷ z ∷ more) h w = absurd (too_long w)

local_cells : (r : Row) → IsTypedIn locals_table r → HasLocalCells r
local_cells [] h = no_rowid [] refl h.0
local_cells (a ∷ []) h = absurd (false≢true h.2)
local_cells (a ∷ b ∷ []) h = absurd (and_false (not (is_null b)) h.2)
local_cells (a ∷ b ∷ c ∷ []) h = absurd (and_false (not (is_null c)) (second_so (not (is_null b)) _ h.2))
local_cells (a ∷ b ∷ c ∷ d ∷ []) h = absurd (and_false (not (is_null d)) (second_so (not (is_null c)) _ (second_so (not (is_null b)) _ h.2)))
local_cells (a ∷ b ∷ c ∷ d ∷ e ∷ []) h =
    let typed_c = second_so (is_of_kind kind.Integer b) _ h.1 in
    let typed_d = second_so (is_of_kind kind.Blob c) _ typed_c in
    let typed_e = second_so (is_of_kind kind.Integer d) _ typed_d in
    let some_c = second_so (not (is_null b)) _ h.2 in
    let some_d = second_so (not (is_null c)) _ some_c in
    let some_e = second_so (not (is_null d)) _ some_d in
    λ i. h.0 i ∷ int_cell b (first_so (is_of_kind kind.Integer b) _ h.1) (first_so (not (is_null b)) _ h.2) i ∷ blob_cell c (first_so (is_of_kind kind.Blob c) _ typed_c) (first_so (not (is_null c)) _ some_c) i ∷ int_cell d (first_so (is_of_kind kind.Integer d) _ typed_d) (first_so (not (is_null d)) _ some_d) i ∷ text_cell e (first_so (is_of_kind kind.Text e) _ typed_e) (first_so (not (is_null e)) _ some_e) i ∷ []
local_cells (a ∷ b ∷ c ∷ d ∷ e ∷ z ∷ more) h =
    let typed_c = second_so (is_of_kind kind.Integer b) _ h.1 in
    let typed_d = second_so (is_of_kind kind.Blob c) _ typed_c in
    let typed_e = second_so (is_of_kind kind.Integer d) _ typed_d in
    absurd (and_false (is_of_kind kind.Text e) typed_e)

-- ---- keys

equal_ints : (v w : Value) (m n : ℤ) → v ≡ Int m → w ≡ Int n → m ≡ n → equal Binary v w ≡ true
equal_ints v w m n is_v is_w same = ap (equal Binary v) is_w ∙ int_by Eq v m n is_v ∙ (Decides-int_eq m n).1 same

equal_blobs : (v w : Value) (a b : List ℕ) → v ≡ Blob a → w ≡ Blob b → a ≡ b → equal Binary v w ≡ true
equal_blobs v w a b is_v is_w same = ap (equal Binary v) is_w ∙ same_blob v a b is_v ∙ (bytes_eq-Decides a b).1 same

equal_texts : (v w : Value) (a b : List ℕ) → v ≡ Text a → w ≡ Text b → a ≡ b → equal Binary v w ≡ true
equal_texts v w a b is_v is_w same = ap (equal Binary v) is_w ∙ same_text v a b is_v ∙ (bytes_eq-Decides a b).1 same

differ_ints : (v w : Value) (m n : ℤ) → v ≡ Int m → w ≡ Int n → m <ℤ n → differ v w ≡ true
differ_ints v w m n is_v is_w low = ap (differ v) is_w ∙ int_by Ne v m n is_v ∙ not_equal
  where
    not_equal : int_test Ne m n ≡ true
    not_equal = grind (arith, ints, low)

some_passes : (p : Row → Bool) (rows : List Row) (x : Row) → In rows x → p x ≡ true → list_any p rows ≡ true
some_passes p [] x i t = absurd i
some_passes p (r ∷ rows) x (inl e) t = rw (ap p e ∙ t) refl
some_passes p (r ∷ rows) x (inr i) t = elim (p r) as (λ b. (b || list_any p rows) ≡ true) [ true ↦ refl | false ↦ some_passes p rows x i t ]

-- rows of which none clashes with another have keys apart
module _ (places : List ℕ) (all : List Row) (IsRow : Row → Type 0) (K : Row → Row → Type 0) (number : (r : Row) → IsRow r → rowid r ≡ Int (number_of r))
    (agrees : (a b : Row) → IsRow a → IsRow b → K a b → agree plain places a places b ≡ true) where
  clashing : (a b : Row) → IsRow a → IsRow b → In all a → number_of a <ℤ number_of b → K a b → clashes plain places all b ≡ true
  clashing a b k l i low same =
      some_passes (λ other. agree plain places other places b && differ (rowid other) (rowid b)) all a i
      (rw (agrees a b k l same, differ_ints (rowid a) (rowid b) (number_of a) (number_of b) (number a k) (number b l) low) refl)

  apart_in : (rows : List Row) → AllByRecursion IsRow rows → AllByRecursion (In all) rows → IsAscending (λ a b. number_of a <ℤ number_of b) rows → AllByRecursion (λ b. clashes plain places all b ≡ false) rows → IsAscending (λ a b. ¬ K a b) rows
  apart_in [] are among up free = tt
  apart_in (a ∷ rows) are among up free = (
    all_both (λ b. IsRow b × (number_of a <ℤ number_of b)) (λ b. clashes plain places all b ≡ false) (λ b. ¬ K a b)
        (λ b k none same. false≢true (sym none ∙ clashing a b are.0 k.0 among.0 k.1 same)) rows
        (all_both IsRow (λ b. number_of a <ℤ number_of b) (λ b. IsRow b × (number_of a <ℤ number_of b)) (λ b k low. (k, low)) rows are.1 up.0) free.1,
    apart_in rows are.1 among.1 up.1 free.1,
  )

both_true : (b c : Bool) → b ≡ true → c ≡ true → (b && c) ≡ true
both_true true c p q = q
both_true false c p q = absurd (false≢true p)

not_clashing : (b c : Bool) → (not (b && c)) ≡ true → b ≡ true → c ≡ false
not_clashing true true h is = absurd (false≢true h)
not_clashing true false h is = refl
not_clashing false c h is = absurd (false≢true is)

-- ---- the tables of a database that is sound

module _ (db : Trees) (sound : IsSound schema db) (kept : AreKept db) where
  typed_rows : (table : Table) (rows : List Row) → AreNumbered rows → AllByRecursion (λ r. passes Datatype schema db table r ≡ true) rows → AllByRecursion (λ r. passes NotNull schema db table r ≡ true) rows → AllByRecursion (IsTypedIn table) rows
  typed_rows table rows numbered typed there =
      all_both (λ r. rowid r ≡ Int (number_of r)) (λ r. (passes Datatype schema db table r ≡ true) × (passes NotNull schema db table r ≡ true)) (IsTypedIn table)
      (λ r n k. (n, first_so (are_typed table.key 0 table.columns (drop 1 r)) (has_computed table r) k.0, k.1)) rows numbered.numbers
      (all_both (λ r. passes Datatype schema db table r ≡ true) (λ r. passes NotNull schema db table r ≡ true) (λ r. (passes Datatype schema db table r ≡ true) × (passes NotNull schema db table r ≡ true)) (λ r t n. (t, n)) rows typed there)

  dbs : AllByRecursion HasDatabaseCells (db dbs_tree)
  dbs = all_weaker (IsTypedIn dbs_table) HasDatabaseCells database_cells (db dbs_tree) (typed_rows dbs_table (db dbs_tree) kept.dbs (sound.obeys.rules Datatype).1.0 (sound.obeys.rules NotNull).1.0)

  docs : AllByRecursion HasDocumentCells (db docs_tree)
  docs = all_weaker (IsTypedIn docs_table) HasDocumentCells document_cells (db docs_tree) (typed_rows docs_table (db docs_tree) kept.docs (sound.obeys.rules Datatype).1.1.0 (sound.obeys.rules NotNull).1.1.0)

  revs : AllByRecursion HasRevisionCells (db revs_tree)
  revs =
      all_both (IsTypedIn revs_table) (λ r. length r ≡ 9) HasRevisionCells revision_cells (db revs_tree)
      (typed_rows revs_table (db revs_tree) kept.revs (sound.obeys.rules Datatype).1.1.1.0 (sound.obeys.rules NotNull).1.1.1.0) kept.whole

  locals : AllByRecursion HasLocalCells (db locals_tree)
  locals = all_weaker (IsTypedIn locals_table) HasLocalCells local_cells (db locals_tree) (typed_rows locals_table (db locals_tree) kept.locals (sound.obeys.rules Datatype).1.1.1.1.0 (sound.obeys.rules NotNull).1.1.1.1.0)

  -- each unique index keeps a key apart
  abbrev HasNoClash : Table → Row → Type 0
  HasNoClash table r = list_all (λ i. not (guards i table && clashes i.order i.columns (db table.tree) r)) schema.indexes ≡ true

  name_free : (r : Row) → HasNoClash dbs_table r → clashes plain (2 ∷ []) (db dbs_tree) r ≡ false
  name_free r h = not_clashing true (clashes plain (2 ∷ []) (db dbs_tree) r) (first_so (not (true && clashes plain (2 ∷ []) (db dbs_tree) r)) _ h) refl

  id_free : (r : Row) → HasNoClash docs_table r → clashes plain (1 ∷ 2 ∷ []) (db docs_tree) r ≡ false
  id_free r h = not_clashing true (clashes plain (1 ∷ 2 ∷ []) (db docs_tree) r) (first_so (not (true && clashes plain (1 ∷ 2 ∷ []) (db docs_tree) r)) _ h) refl

  sequence_free : (r : Row) → HasNoClash docs_table r → clashes plain (1 ∷ 3 ∷ []) (db docs_tree) r ≡ false
  sequence_free r h =
      not_clashing true (clashes plain (1 ∷ 3 ∷ []) (db docs_tree) r)
      (first_so (not (true && clashes plain (1 ∷ 3 ∷ []) (db docs_tree) r)) _ (second_so (not (true && clashes plain (1 ∷ 2 ∷ []) (db docs_tree) r)) _ h)) refl

  revision_free : (r : Row) → HasNoClash revs_table r → clashes plain (1 ∷ 2 ∷ 3 ∷ 4 ∷ []) (db revs_tree) r ≡ false
  revision_free r h = not_clashing true (clashes plain (1 ∷ 2 ∷ 3 ∷ 4 ∷ []) (db revs_tree) r) (first_so (not (true && clashes plain (1 ∷ 2 ∷ 3 ∷ 4 ∷ []) (db revs_tree) r)) _ h) refl

  local_free : (r : Row) → HasNoClash locals_table r → clashes plain (1 ∷ 2 ∷ []) (db locals_tree) r ≡ false
  local_free r h = not_clashing true (clashes plain (1 ∷ 2 ∷ []) (db locals_tree) r) (first_so (not (true && clashes plain (1 ∷ 2 ∷ []) (db locals_tree) r)) _ h) refl

  names_apart : IsAscending (λ a b. name_of a ≢ name_of b) (db dbs_tree)
  unfolding first_key
  names_apart =
      apart_in (2 ∷ []) (db dbs_tree) HasDatabaseCells (λ a b. name_of a ≡ name_of b) (λ r k. ap rowid k)
      (λ a b k l same. both_true _ _ (equal_blobs (column a 2) (column b 2) (name_of a) (name_of b) (ap (λ x. column x 2) k) (ap (λ x. column x 2) l) same) refl)
      (db dbs_tree) dbs (each_in (db dbs_tree)) kept.dbs.rising (all_weaker (HasNoClash dbs_table) _ name_free (db dbs_tree) (sound.obeys.rules Unique).1.0)

  ids_apart : IsAscending (λ a b. db_of a ≡ db_of b → id_of a ≢ id_of b) (db docs_tree)
  unfolding first_key
  ids_apart =
      ascending_weaker (λ a b. ¬ ((db_of a ≡ db_of b) × (id_of a ≡ id_of b))) (λ a b. db_of a ≡ db_of b → id_of a ≢ id_of b) (λ a b none d i. none (d, i)) (db docs_tree)
      (apart_in (1 ∷ 2 ∷ []) (db docs_tree) HasDocumentCells (λ a b. (db_of a ≡ db_of b) × (id_of a ≡ id_of b)) (λ r k. ap rowid k)
      (λ a b k l same. both_true _ _ (equal_ints (column a 1) (column b 1) (db_of a) (db_of b) (ap (λ x. column x 1) k) (ap (λ x. column x 1) l) same.0) (both_true _ _ (equal_blobs (column a 2) (column b 2) (id_of a) (id_of b) (ap (λ x. column x 2) k) (ap (λ x. column x 2) l) same.1) refl))
      (db docs_tree) docs (each_in (db docs_tree)) kept.docs.rising (all_weaker (HasNoClash docs_table) _ id_free (db docs_tree) (sound.obeys.rules Unique).1.1.0))

  sequences_apart : IsAscending (λ a b. db_of a ≡ db_of b → whole_in_cell (column a 3) ≢ whole_in_cell (column b 3)) (db docs_tree)
  unfolding first_key
  sequences_apart =
      ascending_weaker (λ a b. ¬ ((db_of a ≡ db_of b) × (whole_in_cell (column a 3) ≡ whole_in_cell (column b 3)))) (λ a b. db_of a ≡ db_of b → whole_in_cell (column a 3) ≢ whole_in_cell (column b 3)) (λ a b none d i. none (d, i)) (db docs_tree)
      (apart_in (1 ∷ 3 ∷ []) (db docs_tree) HasDocumentCells (λ a b. (db_of a ≡ db_of b) × (whole_in_cell (column a 3) ≡ whole_in_cell (column b 3))) (λ r k. ap rowid k)
      (λ a b k l same. both_true _ _ (equal_ints (column a 1) (column b 1) (db_of a) (db_of b) (ap (λ x. column x 1) k) (ap (λ x. column x 1) l) same.0) (both_true _ _ (equal_ints (column a 3) (column b 3) (whole_in_cell (column a 3)) (whole_in_cell (column b 3)) (ap (λ x. column x 3) k) (ap (λ x. column x 3) l) same.1) refl))
      (db docs_tree) docs (each_in (db docs_tree)) kept.docs.rising (all_weaker (HasNoClash docs_table) _ sequence_free (db docs_tree) (sound.obeys.rules Unique).1.1.0))

  revisions_apart : IsAscending (λ a b. db_of a ≡ db_of b → id_of a ≡ id_of b → stored_revision a ≢ stored_revision b) (db revs_tree)
  unfolding first_key
  revisions_apart =
      ascending_weaker (λ a b. ¬ ((db_of a ≡ db_of b) × ((id_of a ≡ id_of b) × (stored_revision a ≡ stored_revision b)))) (λ a b. db_of a ≡ db_of b → id_of a ≡ id_of b → stored_revision a ≢ stored_revision b) (λ a b none d i s. none (d, (i, s))) (db revs_tree)
      (apart_in (1 ∷ 2 ∷ 3 ∷ 4 ∷ []) (db revs_tree) HasRevisionCells (λ a b. (db_of a ≡ db_of b) × ((id_of a ≡ id_of b) × (stored_revision a ≡ stored_revision b))) (λ r k. ap rowid k.is)
      (λ a b k l same.
      both_true _ _ (equal_ints (column a 1) (column b 1) (db_of a) (db_of b) (ap (λ x. column x 1) k.is) (ap (λ x. column x 1) l.is) same.0)
      (both_true _ _ (equal_blobs (column a 2) (column b 2) (id_of a) (id_of b) (ap (λ x. column x 2) k.is) (ap (λ x. column x 2) l.is) same.1.0)
      (both_true _ _ (equal_ints (column a 3) (column b 3) (whole_in_cell (column a 3)) (whole_in_cell (column b 3)) (ap (λ x. column x 3) k.is) (ap (λ x. column x 3) l.is) (ap (λ (p : ℤ × List ℕ). p.0) same.1.1))
      (both_true _ _ (equal_texts (column a 4) (column b 4) (bytes (column a 4)) (bytes (column b 4)) (ap (λ x. column x 4) k.is) (ap (λ x. column x 4) l.is) (ap (λ (p : ℤ × List ℕ). p.1) same.1.1)) refl))))
      (db revs_tree) revs (each_in (db revs_tree)) kept.revs.rising (all_weaker (HasNoClash revs_table) _ revision_free (db revs_tree) (sound.obeys.rules Unique).1.1.1.0))

  local_ids_apart : IsAscending (λ a b. db_of a ≡ db_of b → id_of a ≢ id_of b) (db locals_tree)
  unfolding first_key
  local_ids_apart =
      ascending_weaker (λ a b. ¬ ((db_of a ≡ db_of b) × (id_of a ≡ id_of b))) (λ a b. db_of a ≡ db_of b → id_of a ≢ id_of b) (λ a b none d i. none (d, i)) (db locals_tree)
      (apart_in (1 ∷ 2 ∷ []) (db locals_tree) HasLocalCells (λ a b. (db_of a ≡ db_of b) × (id_of a ≡ id_of b)) (λ r k. ap rowid k)
      (λ a b k l same. both_true _ _ (equal_ints (column a 1) (column b 1) (db_of a) (db_of b) (ap (λ x. column x 1) k) (ap (λ x. column x 1) l) same.0) (both_true _ _ (equal_blobs (column a 2) (column b 2) (id_of a) (id_of b) (ap (λ x. column x 2) k) (ap (λ x. column x 2) l) same.1) refl))
      (db locals_tree) locals (each_in (db locals_tree)) kept.locals.rising (all_weaker (HasNoClash locals_table) _ local_free (db locals_tree) (sound.obeys.rules Unique).1.1.1.1.0))

  -- the tables of a database that is sound are shaped
  pub are_shaped : AreShaped db
  are_shaped = record {
    kept = kept;
    meta = all_weaker (IsTypedIn meta_table) HasVersionCells version_cells (db meta_tree) (typed_rows meta_table (db meta_tree) kept.meta (sound.obeys.rules Datatype).0 (sound.obeys.rules NotNull).0);
    dbs = dbs;
    docs = docs;
    revs = revs;
    locals = locals;
    names_apart = names_apart;
    ids_apart = ids_apart;
    sequences_apart = sequences_apart;
    revisions_apart = revisions_apart;
    local_ids_apart = local_ids_apart;
  }
