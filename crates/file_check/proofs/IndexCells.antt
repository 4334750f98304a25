-- What SQLite keeps of the rows of indexes: cells of the kinds of their columns, and unique keys.
use Rattle.index.proofs.Common.{AllByRecursion, AreEntryRows, AreNumbered, Binary, Blob, Bool, Database, Eq, Int, IsAscending, IsEntryRow, List, Null, Row, Text, [], all_both, all_weaker, and_from, and_parts, ap, arith, column, declaration_of, decls_tree, design_of, entries_tree, entry_id, false, database_of_declaration, index_name_of_row, int_by, ints, key_of, list_any, none_from_any, not, number_of, refl, rowid, same_blob, schema, true, ℕ, ℤ, ◌&&◌, ◌<ℤ◌, ◌∙◌, ◌∷◌, ◌≡◌, ◌≢◌, drop, decls_table, entries_table, int_eq, same_int}
use Rattle.std.proofs.Common.{inl, inr}
use Rattle.std.proofs.lemmas.Bool.{false_from_ne_true}
use Rattle.index.proofs.EntryChanges.{same_bytes, same_number}
use Rattle.index.proofs.Spots.{at_in}
use Rattle.store.proofs.Listings.{In}
use Rattle.sqlite_catalog.specs.Listing.{IsSound}
use Rattle.sqlite_schema.specs.Rules.{agree, are_present, are_typed, clashes, differ, equal, is_of, passes}
use Rattle.sqlite_schema.specs.declared.schema.Constraint.{Constraint}
use Rattle.sqlite_schema.specs.declared.schema.Constraint.TheVariants.{Datatype, NotNull, Unique}
use Rattle.sqlite_schema.specs.declared.schema.Table.{Table}
use Rattle.sqlite_schema.specs.declared.schema.Kind.TheVariants as kind
use Rattle.sqlite_sql.specs.declared.ops.CompareOp.TheVariants.{Ne}
use Rattle.sqlite_sql.specs.Ops.{is_null}
use Rattle.sqlite_value.specs.Keys.{first_key, plain}
use Rattle.sqlite_value.specs.Order.{bytes}
use Rattle.sqlite_value.specs.declared.value.Value.{Value}
use Rattle.sqlite_value.specs.declared.value.Value.TheVariants.{Real}
use Rattle.tables.specs.Rows.{whole_in_cell}
use Rattle.file_check.specs.Indexes.{AreDeclarationCells, HasDeclarationCells, HasIndexCells}

-- ---- kinds

integer : (v : Value) → is_of kind.Integer v ≡ true → not (is_null v) ≡ true → v ≡ Int (whole_in_cell v)
integer Null t n = absurd (cc)
integer (Int m) t n = refl
integer (Real x) t n = absurd (cc)
integer (Text s) t n = absurd (cc)
integer (Blob b) t n = absurd (cc)

blob : (v : Value) → is_of kind.Blob v ≡ true → not (is_null v) ≡ true → v ≡ Blob (bytes v)
blob Null t n = absurd (cc)
blob (Int m) t n = absurd (cc)
blob (Real x) t n = absurd (cc)
blob (Text s) t n = absurd (cc)
blob (Blob b) t n = refl

text : (v : Value) → is_of kind.Text v ≡ true → not (is_null v) ≡ true → v ≡ Text (bytes v)
text Null t n = absurd (cc)
text (Int m) t n = absurd (cc)
text (Real x) t n = absurd (cc)
text (Text s) t n = refl
text (Blob b) t n = absurd (cc)

null : (v : Value) → is_null v ≡ true → v ≡ Null
null Null n = refl
null (Int m) n = absurd (cc)
null (Real x) n = absurd (cc)
null (Text s) n = absurd (cc)
null (Blob b) n = absurd (cc)

never : (a : Bool) → (a && false) ≡ true → ⊥
never true h = cc
never false h = cc

-- ---- rows

entry_shaped : (r : Row) → rowid r ≡ Int (number_of r) → are_typed entries_table.key 0 entries_table.columns (drop 1 r) ≡ true → are_present entries_table.key 0 entries_table.columns r ≡ true → IsEntryRow r
entry_shaped [] n t p = absurd (cc)
entry_shaped (x ∷ []) n t p = absurd (cc)
entry_shaped (x ∷ a ∷ []) n t p = absurd (never (not (is_null a)) p)
entry_shaped (x ∷ a ∷ b ∷ []) n t p = absurd (never (not (is_null b)) (and_parts (not (is_null a)) _ p).1)
entry_shaped (x ∷ a ∷ b ∷ c ∷ []) n t p =
    let t1 = and_parts (is_of kind.Integer a) _ t in
    let t2 = and_parts (is_of kind.Blob b) _ t1.1 in
    let t3 = and_parts (is_of kind.Blob c) _ t2.1 in
    let p1 = and_parts (not (is_null a)) _ p in
    let p2 = and_parts (not (is_null b)) _ p1.1 in
    let p3 = and_parts (not (is_null c)) _ p2.1 in
    λ j. n j ∷ integer a t1.0 p1.0 j ∷ blob b t2.0 p2.0 j ∷ blob c t3.0 p3.0 j ∷ []
entry_shaped (x ∷ a ∷ b ∷ c ∷ d ∷ more) n t p = absurd (never (is_of kind.Blob c) (and_parts (is_of kind.Blob b) _ (and_parts (is_of kind.Integer a) _ t).1).1)

declaration_shaped : (r : Row) → rowid r ≡ Int (number_of r) → are_typed decls_table.key 0 decls_table.columns (drop 1 r) ≡ true → are_present decls_table.key 0 decls_table.columns r ≡ true → HasDeclarationCells r
declaration_shaped [] n t p = absurd (cc)
declaration_shaped (x ∷ []) n t p = absurd (cc)
declaration_shaped (x ∷ k ∷ []) n t p = absurd (cc)
declaration_shaped (x ∷ k ∷ a ∷ []) n t p = absurd (never (not (is_null a)) p)
declaration_shaped (x ∷ k ∷ a ∷ b ∷ []) n t p = absurd (never (not (is_null b)) (and_parts (not (is_null a)) _ p).1)
declaration_shaped (x ∷ k ∷ a ∷ b ∷ c ∷ []) n t p = absurd (never (not (is_null c)) (and_parts (not (is_null b)) _ (and_parts (not (is_null a)) _ p).1).1)
declaration_shaped (x ∷ k ∷ a ∷ b ∷ c ∷ d ∷ []) n t p =
    let t0 = and_parts (is_null k) _ t in
    let t1 = and_parts (is_of kind.Integer a) _ t0.1 in
    let t2 = and_parts (is_of kind.Blob b) _ t1.1 in
    let t3 = and_parts (is_of kind.Blob c) _ t2.1 in
    let t4 = and_parts (is_of kind.Text d) _ t3.1 in
    let p1 = and_parts (not (is_null a)) _ p in
    let p2 = and_parts (not (is_null b)) _ p1.1 in
    let p3 = and_parts (not (is_null c)) _ p2.1 in
    let p4 = and_parts (not (is_null d)) _ p3.1 in
    λ j. n j ∷ null k t0.0 j ∷ integer a t1.0 p1.0 j ∷ blob b t2.0 p2.0 j ∷ blob c t3.0 p3.0 j ∷ text d t4.0 p4.0 j ∷ []
declaration_shaped (x ∷ k ∷ a ∷ b ∷ c ∷ d ∷ e ∷ more) n t p = absurd (never (is_of kind.Text d) (and_parts (is_of kind.Blob c) _ (and_parts (is_of kind.Blob b) _ (and_parts (is_of kind.Integer a) _ (and_parts (is_null k) _ t).1).1).1).1)

-- ---- unique keys

-- of two rows the later one clashes with the earlier one where they have one key
module _ (P : Row → Type 0) (R : Row → Row → Type 0) (clash : Row → Row → Bool) (apart : (a b : Row) → P a → P b → number_of a <ℤ number_of b → clash b a ≡ false → R a b) (all : List Row) where
  rows_apart : (rows : List Row) → ((x : Row) → In rows x → In all x) → AllByRecursion P rows → IsAscending (λ a b. number_of a <ℤ number_of b) rows → AllByRecursion (λ b. list_any (clash b) all ≡ false) rows → IsAscending R rows
  rows_apart [] within each up none = tt
  rows_apart (a ∷ rows) within each up none = (
    all_both P (λ b. (number_of a <ℤ number_of b) × (list_any (clash b) all ≡ false)) (R a)
        (λ b own both. apart a b each.0 own both.0 (at_in (λ x. clash b x ≡ false) all a (none_from_any (clash b) all both.1) (within a (inl refl)))) rows each.1
        (all_both (λ b. number_of a <ℤ number_of b) (λ b. list_any (clash b) all ≡ false) (λ b. (number_of a <ℤ number_of b) × (list_any (clash b) all ≡ false)) (λ b x y. (x, y)) rows up.0 none.1),
    rows_apart rows (λ x i. within x (inr i)) each.1 up.1 none.1,
  )

binary_key : (first_key plain).collation ≡ Binary
unfolding first_key
binary_key = refl

ints_equal : (v w : Value) (m n : ℤ) → v ≡ Int m → w ≡ Int n → m ≡ n → equal (first_key plain).collation v w ≡ true
ints_equal v w m n p q same = ap (λ h. equal h v w) binary_key ∙ ap (equal Binary v) q ∙ int_by Eq v m n p ∙ same_number m n same

blobs_equal : (v w : Value) (a b : List ℕ) → v ≡ Blob a → w ≡ Blob b → a ≡ b → equal (first_key plain).collation v w ≡ true
blobs_equal v w a b p q same = ap (λ h. equal h v w) binary_key ∙ ap (equal Binary v) q ∙ same_blob v a b p ∙ same_bytes a b same

numbers_differ : (a b : Row) → rowid a ≡ Int (number_of a) → rowid b ≡ Int (number_of b) → number_of a <ℤ number_of b → differ (rowid a) (rowid b) ≡ true
numbers_differ a b p q below =
    ap (differ (rowid a)) q ∙ int_by Ne (rowid a) (number_of a) (number_of b) p
    ∙ ap not (false_from_ne_true (int_eq (number_of a) (number_of b)) (λ same. let e = same_int (number_of a) (number_of b) same in omega (arith, ints)))

unclashed : (x : Bool) → (not x && true) ≡ true → x ≡ false
unclashed true h = absurd (cc)
unclashed false h = refl

-- two rows with one number and one text of bytes have another second text, where the columns of the three are a key
module _ (P : Row → Type 0) (x y z : ℕ) (home : Row → ℤ) (one two : Row → List ℕ) (cells : (r : Row) → P r → (rowid r ≡ Int (number_of r)) × (column r x ≡ Int (home r)) × (column r y ≡ Blob (one r)) × (column r z ≡ Blob (two r))) where
  key_apart : (a b : Row) → P a → P b → number_of a <ℤ number_of b → (agree plain (x ∷ y ∷ z ∷ []) a (x ∷ y ∷ z ∷ []) b && differ (rowid a) (rowid b)) ≡ false → home a ≡ home b → one a ≡ one b → two a ≢ two b
  key_apart a b k l below none same_home same_one same_two =
      let p = cells a k in
      let q = cells b l in
      let same : agree plain (x ∷ y ∷ z ∷ []) a (x ∷ y ∷ z ∷ []) b ≡ true =
      and_from _ _ (ints_equal (column a x) (column b x) (home a) (home b) p.1 q.1 same_home)
      (and_from _ _ (blobs_equal (column a y) (column b y) (one a) (one b) p.2 q.2 same_one) (and_from _ _ (blobs_equal (column a z) (column b z) (two a) (two b) p.3 q.3 same_two) refl)) in
      let clash = and_from _ _ same (numbers_differ a b p.0 q.0 below) in
      cc

entry_apart : (a b : Row) → IsEntryRow a → IsEntryRow b → number_of a <ℤ number_of b → (agree plain (1 ∷ 2 ∷ 3 ∷ []) a (1 ∷ 2 ∷ 3 ∷ []) b && differ (rowid a) (rowid b)) ≡ false
    → declaration_of a ≡ declaration_of b → key_of a ≡ key_of b → entry_id a ≢ entry_id b
entry_apart = key_apart IsEntryRow 1 2 3 declaration_of key_of entry_id (λ r k. (ap rowid k, ap (λ x. column x 1) k, ap (λ x. column x 2) k, ap (λ x. column x 3) k))

declaration_apart : (a b : Row) → HasDeclarationCells a → HasDeclarationCells b → number_of a <ℤ number_of b → (agree plain (2 ∷ 3 ∷ 4 ∷ []) a (2 ∷ 3 ∷ 4 ∷ []) b && differ (rowid a) (rowid b)) ≡ false
    → database_of_declaration a ≡ database_of_declaration b → design_of a ≡ design_of b → index_name_of_row a ≢ index_name_of_row b
declaration_apart = key_apart HasDeclarationCells 2 3 4 database_of_declaration design_of index_name_of_row (λ r k. (ap rowid k, ap (λ x. column x 2) k, ap (λ x. column x 3) k, ap (λ x. column x 4) k))

-- ---- what the schema asks of the rows

-- rows that pass the tests of their kinds, of the columns that are never NULL, and of a unique key
module _ (Is : Row → Type 0) {R : Row → Row → Type 0} (keys : List ℕ) (typed there unique : Row → Bool) (shaped : (r : Row) → rowid r ≡ Int (number_of r) → typed r ≡ true → there r ≡ true → Is r)
    (apart : (a b : Row) → Is a → Is b → number_of a <ℤ number_of b → (agree plain keys a keys b && differ (rowid a) (rowid b)) ≡ false → R a b) (rows : List Row) (n : AreNumbered rows) where
  rows_shaped : AllByRecursion (λ r. typed r ≡ true) rows → AllByRecursion (λ r. there r ≡ true) rows → AllByRecursion Is rows
  rows_shaped kinds present =
      all_both (λ r. rowid r ≡ Int (number_of r)) (λ r. (typed r ≡ true) × (there r ≡ true)) Is (λ r k h. shaped r k h.0 h.1) rows n.numbers
      (all_both (λ r. typed r ≡ true) (λ r. there r ≡ true) (λ r. (typed r ≡ true) × (there r ≡ true)) (λ r x y. (x, y)) rows kinds present)

  -- each is so, and no two have one key
  keyed_rows : ((r : Row) → unique r ≡ true → (not (clashes plain keys rows r) && true) ≡ true) → AllByRecursion (λ r. typed r ≡ true) rows → AllByRecursion (λ r. there r ≡ true) rows → AllByRecursion (λ r. unique r ≡ true) rows
      → AllByRecursion Is rows × IsAscending R rows
  keyed_rows clashing kinds present uniques =
      let each = rows_shaped kinds present in (
        each,
        rows_apart Is R (λ b a. agree plain keys a keys b && differ (rowid a) (rowid b)) apart rows rows (λ x i. i) each n.rising
            (all_weaker (λ r. unique r ≡ true) (λ r. clashes plain keys rows r ≡ false) (λ r h. unclashed (clashes plain keys rows r) (clashing r h)) rows uniques),
      )

module _ (db : Database) (has : db.schema ≡ schema) (sound : IsSound schema db.trees) where
  abbrev passing : Constraint → Table → Row → Bool
  passing rule table r = passes rule schema db.trees table r

  entry_rows : AreNumbered (db.trees entries_tree) → AreEntryRows (db.trees entries_tree)
  entry_rows n =
      let found =
      keyed_rows IsEntryRow (1 ∷ 2 ∷ 3 ∷ []) (passing Datatype entries_table) (passing NotNull entries_table) (passing Unique entries_table) (λ r k t p. entry_shaped r k (and_parts _ _ t).0 p) entry_apart (db.trees entries_tree) n
      (λ r h. h) (sound.obeys.rules Datatype).1.1.1.1.1.1.0 (sound.obeys.rules NotNull).1.1.1.1.1.1.0 (sound.obeys.rules Unique).1.1.1.1.1.1.0 in
      record { each = found.0; rising = n.rising; apart = found.1 }

  declaration_rows : AreNumbered (db.trees decls_tree) → AreDeclarationCells (db.trees decls_tree)
  declaration_rows n =
      let found =
      keyed_rows HasDeclarationCells (2 ∷ 3 ∷ 4 ∷ []) (passing Datatype decls_table) (passing NotNull decls_table) (passing Unique decls_table) (λ r k t p. declaration_shaped r k (and_parts _ _ t).0 p) declaration_apart (db.trees decls_tree) n
      (λ r h. h) (sound.obeys.rules Datatype).1.1.1.1.1.0 (sound.obeys.rules NotNull).1.1.1.1.1.0 (sound.obeys.rules Unique).1.1.1.1.1.0 in
      record { each = found.0; rising = n.rising; apart = found.1 }

  pub index_cells : AreNumbered (db.trees decls_tree) → AreNumbered (db.trees entries_tree) → HasIndexCells db
  index_cells decls entries = record { schema_is = has; decls = declaration_rows decls; entries = entry_rows entries }
