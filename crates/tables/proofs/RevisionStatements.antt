-- What the statements on revisions mean.
use Rattle.tables.proofs.Common.{AllByRecursion, Blob, Bool, Decides-int_eq, Delete, IsAscending, IsWellFormed, IsRevisionRow, Revision, Term, Trees, all_weaker, and_parts, ap, ascending_weaker, bytes_eq, bytes_eq-Decides, column, db_of, eq_by_cmp, false, holds, id_of, int_eq, is_row_of_database, is_revision_of, list_all, revision_cmp, revision_of_row, same, same_int, shown_hash, shown_outline, sym, tied, true, ◌&&◌, ◌∙◌, ◌≢◌, IfOk, Insert, Int, IsPermutation, IsStore, List, Null, Result, Row, Select, Shown, State, Text, Value, Values, [], as_text, cast_row, codes, col, cond, everything, filter, given_cells, is_row_of_document, lit, map, pos, refl, revs_table, revs_tree, schema, shown_revision, understood, ℕ, ℤ, ◌∷◌, ◌≡◌}
use Rattle.tables.proofs.Cells.{by_db, by_id, cast_null, cast_int, compares, int_by, same_blob, same_text, tests_id}
use Rattle.sqlite_sql.specs.declared.ops.CompareOp.TheVariants.{Eq}
use Rattle.sqlite_typed.proofs.TestLemmas.{last_term, then_term}
use Rattle.tables.proofs.Single.{HasOneAtMost}
use Rattle.tables.proofs.Finds.{finds_one, finds_where}
use Rattle.tables.proofs.Queries.{program_on}
use Rattle.tables.proofs.Tables.{of_these, revs_keyed}
use Rattle.tables.proofs.Writes.{IsCommand}

pub inserts_revision : IsCommand schema (codes "INSERT INTO revs (db, id, n, hash, parent, held, del, body) VALUES (?1, ?2, ?3, ?4, ?5, ?6, ?7, ?8)")
    (Insert 3 (Values (lit Null ∷ col 0 0 ∷ col 0 1 ∷ col 0 2 ∷ col 0 3 ∷ col 0 4 ∷ col 0 5 ∷ col 0 6 ∷ col 0 7 ∷ []) 9))
unfolding understood everything
inserts_revision = record { is = refl; plain = (refl, refl); unlisted = refl }

pub clears_revisions : IsCommand schema (codes "DELETE FROM revs WHERE db = ?1") (Delete 3 (program_on revs_tree by_db (col 1 0 ∷ []) []))
unfolding understood everything
clears_revisions = record { is = refl; plain = (refl, refl); unlisted = refl }

pub cast_revision : (db : ℤ) (id : List ℕ) (n : ℕ) (hash : List ℕ) (parent : Value) (held deleted : Bool) (body : Value) → as_text parent ≡ parent → as_text body ≡ body → cast_row revs_table (Null ∷ given_cells db id n hash parent held deleted body) ≡ Null ∷ given_cells db id n hash parent held deleted body
cast_revision db id n hash parent held deleted body parent_text body_text = λ i. cast_null i ∷ cast_int db i ∷ Blob id ∷ cast_int (pos n) i ∷ Text hash ∷ parent_text i ∷ cast_int (cond held (pos 1) (pos 0)) i ∷ cast_int (cond deleted (pos 1) (pos 0)) i ∷ body_text i ∷ []

abbrev pub revisions_text : List ℕ
revisions_text = codes "SELECT n, hash, parent, held, del, body FROM revs WHERE db = ?1 AND id = ?2"

pub revisions_are : IsCommand schema revisions_text (Select (program_on revs_tree by_id (col 1 3 ∷ col 1 4 ∷ col 1 5 ∷ col 1 6 ∷ col 1 7 ∷ col 1 8 ∷ []) []) (codes "n" ∷ codes "hash" ∷ codes "parent" ∷ codes "held" ∷ codes "del" ∷ codes "body" ∷ []))
unfolding understood everything
revisions_are = record { is = refl; plain = (refl, refl); unlisted = refl }

pub finds_revisions : {X E : Type 0} (old new : State) → IsStore old.now → (db : ℤ) (id : List ℕ) (r : Result X E) (items : X → List Row) → IfOk r (λ x. Shown revisions_text (Int db ∷ Blob id ∷ []) old new (items x))
    → IfOk r (λ x. IsPermutation (map shown_revision (filter (is_row_of_document db id) (old.now.trees revs_tree))) (items x))
finds_revisions old new is db id = finds_where old new is.schema_is revisions_are (Int db ∷ Blob id ∷ []) (is_row_of_document db id) shown_revision refl (λ r. refl) (tests_id db id [] _ (revs_keyed old.now.trees is.laid))

-- ---- one revision

abbrev by_revision : List Term
by_revision = compares Eq 1 0 ∷ compares Eq 2 1 ∷ compares Eq 3 2 ∷ compares Eq 4 3 ∷ []

abbrev pub one_revision_text : List ℕ
one_revision_text = codes "SELECT n, hash, parent, held, del, body FROM revs WHERE db = ?1 AND id = ?2 AND n = ?3 AND hash = ?4"

pub one_revision_is : IsCommand schema one_revision_text (Select (program_on revs_tree by_revision (col 1 3 ∷ col 1 4 ∷ col 1 5 ∷ col 1 6 ∷ col 1 7 ∷ col 1 8 ∷ []) []) (codes "n" ∷ codes "hash" ∷ codes "parent" ∷ codes "held" ∷ codes "del" ∷ codes "body" ∷ []))
unfolding understood everything
one_revision_is = record { is = refl; plain = (refl, refl); unlisted = refl }

either_way : (a b : Bool) → (a ≡ true → b ≡ true) → (b ≡ true → a ≡ true) → a ≡ b
either_way true b there back = sym (there refl)
either_way false true there back = back refl
either_way false false there back = refl

grouped : (a b c : Bool) → (a && (b && c)) ≡ ((a && b) && c)
grouped true b c = refl
grouped false b c = refl

-- the tests by number and hash tell the revision
same_revision : (r q : Revision) → (int_eq (pos r.number) (pos q.number) && bytes_eq r.hash q.hash) ≡ eq_by_cmp revision_cmp q r
same_revision r q =
    either_way (int_eq (pos r.number) (pos q.number) && bytes_eq r.hash q.hash) (eq_by_cmp revision_cmp q r)
    (λ passes.
    let parts = and_parts (int_eq (pos r.number) (pos q.number)) (bytes_eq r.hash q.hash) passes in
    let number : pos r.number ≡ pos q.number = same_int (pos r.number) (pos q.number) parts.0 in
    let n : r.number ≡ q.number = cc in
    let hash : r.hash ≡ q.hash = (bytes_eq-Decides r.hash q.hash).0 parts.1 in
    tied q r (λ i. record { number = sym n i; hash = sym hash i }))
    (λ is.
    let one = same q r is in
    let number : int_eq (pos r.number) (pos q.number) ≡ true = (Decides-int_eq (pos r.number) (pos q.number)).1 (ap (λ (x : Revision). pos x.number) (sym one)) in
    let hash : bytes_eq r.hash q.hash ≡ true = (bytes_eq-Decides r.hash q.hash).1 (ap (λ (x : Revision). x.hash) (sym one)) in
    rw (number, hash) refl)

tests_revision : (trees : Trees) (db : ℤ) (id : List ℕ) (q : Revision) → IsWellFormed trees
    → AllByRecursion (λ r. list_all (holds ((Int db ∷ Blob id ∷ Int (pos q.number) ∷ Text q.hash ∷ []) ∷ r ∷ [])) by_revision ≡ is_revision_of db id q r) (trees revs_tree)
tests_revision trees db id q laid =
    all_weaker (IsRevisionRow trees) (λ r. list_all (holds ((Int db ∷ Blob id ∷ Int (pos q.number) ∷ Text q.hash ∷ []) ∷ r ∷ [])) by_revision ≡ is_revision_of db id q r)
    (λ r k.
    then_term (int_by Eq (column r 1) (db_of r) db (ap (λ x. column x 1) k.is))
    (then_term (same_blob (column r 2) (id_of r) id (ap (λ x. column x 2) k.is))
    (then_term (int_by Eq (column r 3) (pos (revision_of_row r).number) (pos q.number) (ap (λ x. column x 3) k.is))
    (last_term (same_text (column r 4) (revision_of_row r).hash q.hash (ap (λ x. column x 4) k.is)))))
    ∙ ap (λ b. is_row_of_database db r && (bytes_eq (id_of r) id && b)) (same_revision (revision_of_row r) q)
    ∙ grouped (is_row_of_database db r) (bytes_eq (id_of r) id) (eq_by_cmp revision_cmp q (revision_of_row r))) (trees revs_tree) laid.revs

-- at most one row is that of the revision
pub one_revision_of : (rows : List Row) → IsAscending (λ a b. db_of a ≡ db_of b → id_of a ≡ id_of b → revision_of_row a ≢ revision_of_row b) rows → (db : ℤ) (id : List ℕ) (q : Revision) → HasOneAtMost (is_revision_of db id q) rows
one_revision_of rows apart db id q =
    ascending_weaker (λ a b. db_of a ≡ db_of b → id_of a ≡ id_of b → revision_of_row a ≢ revision_of_row b) (λ a b. is_revision_of db id q a ≡ true → is_revision_of db id q b ≡ true → ⊥)
    (λ a b h x y.
    let at_a = and_parts (is_row_of_document db id a) _ x in
    let at_b = and_parts (is_row_of_document db id b) _ y in
    let own_a = of_these db id a at_a.0 in
    let own_b = of_these db id b at_b.0 in
    h (own_a.0 ∙ sym own_b.0) (own_a.1 ∙ sym own_b.1) (sym (same q (revision_of_row a) at_a.1) ∙ same q (revision_of_row b) at_b.1)) rows apart

pub finds_one_revision : {X E : Type 0} (old new : State) → IsStore old.now → (db : ℤ) (id : List ℕ) (q : Revision) (r : Result X E) (items : X → List Row)
    → IfOk r (λ x. Shown one_revision_text (Int db ∷ Blob id ∷ Int (pos q.number) ∷ Text q.hash ∷ []) old new (items x)) → IfOk r (λ x. items x ≡ map shown_revision (filter (is_revision_of db id q) (old.now.trees revs_tree)))
finds_one_revision old new is db id q =
    finds_one old new is.schema_is one_revision_is (Int db ∷ Blob id ∷ Int (pos q.number) ∷ Text q.hash ∷ []) (is_revision_of db id q) shown_revision refl (λ r. refl)
    (tests_revision old.now.trees db id q is.laid) (one_revision_of (old.now.trees revs_tree) is.laid.revisions_apart db id q)

-- ---- revisions without their bodies

abbrev pub outline_text : List ℕ
outline_text = codes "SELECT n, hash, parent, held, del FROM revs WHERE db = ?1 AND id = ?2"

pub outline_is : IsCommand schema outline_text (Select (program_on revs_tree by_id (col 1 3 ∷ col 1 4 ∷ col 1 5 ∷ col 1 6 ∷ col 1 7 ∷ []) []) (codes "n" ∷ codes "hash" ∷ codes "parent" ∷ codes "held" ∷ codes "del" ∷ []))
unfolding understood everything
outline_is = record { is = refl; plain = (refl, refl); unlisted = refl }

pub finds_outline : {X E : Type 0} (old new : State) → IsStore old.now → (db : ℤ) (id : List ℕ) (r : Result X E) (items : X → List Row) → IfOk r (λ x. Shown outline_text (Int db ∷ Blob id ∷ []) old new (items x))
    → IfOk r (λ x. IsPermutation (map shown_outline (filter (is_row_of_document db id) (old.now.trees revs_tree))) (items x))
finds_outline old new is db id = finds_where old new is.schema_is outline_is (Int db ∷ Blob id ∷ []) (is_row_of_document db id) shown_outline refl (λ r. refl) (tests_id db id [] _ (revs_keyed old.now.trees is.laid))

-- ---- revisions by their numbers and hashes alone

abbrev pub hash_text : List ℕ
hash_text = codes "SELECT n, hash FROM revs WHERE db = ?1 AND id = ?2"

pub hash_is : IsCommand schema hash_text (Select (program_on revs_tree by_id (col 1 3 ∷ col 1 4 ∷ []) []) (codes "n" ∷ codes "hash" ∷ []))
unfolding understood everything
hash_is = record { is = refl; plain = (refl, refl); unlisted = refl }

pub finds_hashes : {X E : Type 0} (old new : State) → IsStore old.now → (db : ℤ) (id : List ℕ) (r : Result X E) (items : X → List Row) → IfOk r (λ x. Shown hash_text (Int db ∷ Blob id ∷ []) old new (items x))
    → IfOk r (λ x. IsPermutation (map shown_hash (filter (is_row_of_document db id) (old.now.trees revs_tree))) (items x))
finds_hashes old new is db id = finds_where old new is.schema_is hash_is (Int db ∷ Blob id ∷ []) (is_row_of_document db id) shown_hash refl (λ r. refl) (tests_id db id [] _ (revs_keyed old.now.trees is.laid))

-- ---- one revision without its body

abbrev pub one_outline_text : List ℕ
one_outline_text = codes "SELECT n, hash, parent, held, del FROM revs WHERE db = ?1 AND id = ?2 AND n = ?3 AND hash = ?4"

pub one_outline_is : IsCommand schema one_outline_text (Select (program_on revs_tree by_revision (col 1 3 ∷ col 1 4 ∷ col 1 5 ∷ col 1 6 ∷ col 1 7 ∷ []) []) (codes "n" ∷ codes "hash" ∷ codes "parent" ∷ codes "held" ∷ codes "del" ∷ []))
unfolding understood everything
one_outline_is = record { is = refl; plain = (refl, refl); unlisted = refl }

pub finds_one_outline : {X E : Type 0} (old new : State) → IsStore old.now → (db : ℤ) (id : List ℕ) (q : Revision) (r : Result X E) (items : X → List Row)
    → IfOk r (λ x. Shown one_outline_text (Int db ∷ Blob id ∷ Int (pos q.number) ∷ Text q.hash ∷ []) old new (items x)) → IfOk r (λ x. items x ≡ map shown_outline (filter (is_revision_of db id q) (old.now.trees revs_tree)))
finds_one_outline old new is db id q =
    finds_one old new is.schema_is one_outline_is (Int db ∷ Blob id ∷ Int (pos q.number) ∷ Text q.hash ∷ []) (is_revision_of db id q) shown_outline refl (λ r. refl)
    (tests_revision old.now.trees db id q is.laid) (one_revision_of (old.now.trees revs_tree) is.laid.revisions_apart db id q)
