-- What the statements of a check mean.
use Rattle.tables.proofs.Common.{AllByRecursion, AreKeyed, Blob, IfOk, Int, IsKeyed, IsPermutation, List, None, Null, Option, Result, Row, Select, Shown, Some, State, Term, Text, [], all-filter, all_of, all_weaker, ap, bytes, codes, col, column, db_of, dbs_tree, docs_tree, eval_all, everything, filter, filter_all, has_number, holds, id_of, is_row_of_document, list_all, listed_document, lit, map, meta_tree, overlay, refl, revs_tree, rowid, schema, shown_revision, subst, sym, true, understood, whole_in_cell, ℕ, ℤ, ◌∙◌, ◌∷◌, ◌≡◌}
use Rattle.std.specs.Prelude.{take}
use Rattle.sqlite_sql.specs.declared.ops.CompareOp.TheVariants.{Eq}
use Rattle.sqlite_typed.proofs.TestLemmas.{last_term, then_term}
use Rattle.tables.proofs.Cells.{by_id, compares, int_by, same_blob, same_text, tests_id}
use Rattle.tables.proofs.DatabaseStatements.{by_number, tests_number}
use Rattle.tables.proofs.DocumentStatements.{document_is, document_text, listed}
use Rattle.tables.proofs.Finds.{finds_one, finds_where}
use Rattle.tables.proofs.Queries.{first_program, program_on}
use Rattle.file_check.proofs.Refused.{IsAsked, page_asked}
use Rattle.tables.proofs.RevisionStatements.{revisions_are, revisions_text}
use Rattle.tables.proofs.Tables.{one_numbered, one_of}
use Rattle.tables.proofs.Writes.{IsCommand}
use Rattle.file_check.specs.Tables.{HasDocumentCells, HasRevisionCells, HasVersionCells, IsShaped, is_at_sequence, tree_of}
use Rattle.file_check.specs.inner.Queries.{HasCells, is_numbered, is_stored, shown_length, shown_numbered, shown_sequence, shown_stored}
use Rattle.file_check.specs.inner.Statements.{behind_statement, first_statement}
use Rattle.file_check.specs.inner.Walks.{is_behind, next_rows}
use Rattle.file_check.specs.declared.layout.checked.Checked.{Checked}
use Rattle.file_check.specs.declared.layout.checked.Checked.TheVariants.{Databases, Documents, Locals, Revisions}
use Rattle.file_check.proofs.Walked.{cells_of, numbered_rows}
use Rattle.file_check.proofs.WalkStatements.{by_behind, number_order, one, walks_behind, walks_first}

-- ---- the version

abbrev pub versions_text : List ℕ
versions_text = codes "SELECT rowid, version FROM meta"

abbrev version_columns : List Term
version_columns = col 1 0 ∷ col 1 1 ∷ []

pub versions_are : IsCommand schema versions_text (Select (program_on meta_tree [] version_columns []) (codes "rowid" ∷ codes "version" ∷ []))
unfolding understood everything
versions_are = record { is = refl; plain = (refl, refl); unlisted = refl }

pub versions_asked : IsAsked versions_text (program_on meta_tree [] version_columns []) []
unfolding understood everything
versions_asked = page_asked (refl, refl) refl

mapped_whole : (f : Row → Row) (rows : List Row) → AllByRecursion (λ r. f r ≡ r) rows → map f rows ≡ rows
mapped_whole f [] all = refl
mapped_whole f (r ∷ rows) all = λ i. all.0 i ∷ mapped_whole f rows all.1 i

module _ {X E : Type 0} (old new : State) (fit : IsShaped old.now) where
  all_rows : {text : List ℕ} {tree : ℕ} {shown : List Term} {names : List (List ℕ)} → IsCommand schema text (Select (program_on tree [] shown []) names) → overlay old.now.trees [] tree ≡ old.now.trees tree
      → AllByRecursion (λ r. eval_all shown ([] ∷ r ∷ []) ≡ r) (old.now.trees tree) → (r : Result X E) (items : X → List Row) → IfOk r (λ x. Shown text [] old new (items x)) → IfOk r (λ x. IsPermutation (old.now.trees tree) (items x))
  all_rows {tree = tree} {shown = shown} command bare whole r items h =
      let rows = old.now.trees tree in
      let all = all_of (λ x. true ≡ true) (λ x. refl) rows in
      let show : Row → Row = λ x. eval_all shown ([] ∷ x ∷ []) in
      subst (λ l. IfOk r (λ x. IsPermutation l (items x))) (ap (map show) (filter_all (λ x. true) rows all) ∙ mapped_whole show rows whole)
      (finds_where old new fit.schema_is command [] (λ x. true) show bare (λ x. refl) all r items h)

  pub all_versions : (r : Result X E) (items : X → List Row) → IfOk r (λ x. Shown versions_text [] old new (items x)) → IfOk r (λ x. IsPermutation (old.now.trees meta_tree) (items x))
  all_versions =
      all_rows versions_are refl
      (all_weaker HasVersionCells (λ r. eval_all version_columns ([] ∷ r ∷ []) ≡ r) (λ r k. ap (λ x. column x 0 ∷ column x 1 ∷ []) k ∙ sym k) (old.now.trees meta_tree) fit.shaped.meta)

-- ---- the next row of a table

-- rows that are shown as they are
shown_whole : (show : Row → Row) (last : Option ℤ) (rows : List Row) → AllByRecursion (λ r. show r ≡ r) rows → next_rows show last rows ≡ next_rows (λ r. r) last rows
shown_whole show last rows all =
    let next = filter (is_behind last) rows in
    ap (take 1) (mapped_whole show next (all-filter (λ r. show r ≡ r) (is_behind last) rows all) ∙ sym (mapped_whole (λ r. r) next (all_of (λ r. r ≡ r) (λ r. refl) next)))

-- the names of the columns that a walk shows of a table
abbrev headings_of : Checked → List (List ℕ)
headings_of Databases = codes "num" ∷ codes "NULL" ∷ codes "name" ∷ codes "sec" ∷ codes "seq" ∷ []
headings_of Documents = codes "rowid" ∷ codes "db" ∷ codes "id" ∷ codes "seq" ∷ codes "winner" ∷ codes "del" ∷ []
headings_of Revisions = codes "rowid" ∷ codes "db" ∷ codes "id" ∷ codes "n" ∷ codes "hash" ∷ codes "parent" ∷ codes "held" ∷ codes "del" ∷ codes "body" ∷ []
headings_of Locals = codes "rowid" ∷ codes "db" ∷ codes "id" ∷ codes "n" ∷ codes "body" ∷ []

-- the columns
abbrev columns_of : Checked → List Term
columns_of Databases = col 1 0 ∷ lit Null ∷ col 1 2 ∷ col 1 3 ∷ col 1 4 ∷ []
columns_of Documents = col 1 0 ∷ col 1 1 ∷ col 1 2 ∷ col 1 3 ∷ col 1 4 ∷ col 1 5 ∷ []
columns_of Revisions = col 1 0 ∷ col 1 1 ∷ col 1 2 ∷ col 1 3 ∷ col 1 4 ∷ col 1 5 ∷ col 1 6 ∷ col 1 7 ∷ col 1 8 ∷ []
columns_of Locals = col 1 0 ∷ col 1 1 ∷ col 1 2 ∷ col 1 3 ∷ col 1 4 ∷ []

-- what a walk shows of a row
abbrev shown_of : Checked → Row → Row
shown_of of r = eval_all (columns_of of) ([] ∷ r ∷ [])

-- the statement shows the first row of a table that passes these tests
abbrev Shows : List Term → Checked → List ℕ → Type 0
Shows tests of text = IsCommand schema text (Select (first_program (tree_of of) tests (columns_of of) number_order one) (headings_of of))

-- each first statement does so with no test
first_is : (of : Checked) → Shows [] of (first_statement of)
unfolding understood everything
first_is Databases = record { is = refl; plain = (refl, refl); unlisted = refl }
first_is Documents = record { is = refl; plain = (refl, refl); unlisted = refl }
first_is Revisions = record { is = refl; plain = (refl, refl); unlisted = refl }
first_is Locals = record { is = refl; plain = (refl, refl); unlisted = refl }

-- each other one does so with the test of the number
behind_is : (of : Checked) → Shows by_behind of (behind_statement of)
unfolding understood everything
behind_is Databases = record { is = refl; plain = (refl, refl); unlisted = refl }
behind_is Documents = record { is = refl; plain = (refl, refl); unlisted = refl }
behind_is Revisions = record { is = refl; plain = (refl, refl); unlisted = refl }
behind_is Locals = record { is = refl; plain = (refl, refl); unlisted = refl }

-- each is asked as it is to be
first_asked : (of : Checked) → IsAsked (first_statement of) (first_program (tree_of of) [] (columns_of of) number_order one) []
unfolding understood everything
first_asked Databases = page_asked (refl, refl) refl
first_asked Documents = page_asked (refl, refl) refl
first_asked Revisions = page_asked (refl, refl) refl
first_asked Locals = page_asked (refl, refl) refl

behind_asked : (of : Checked) (last : ℤ) → IsAsked (behind_statement of) (first_program (tree_of of) by_behind (columns_of of) number_order one) (Int last ∷ [])
unfolding understood everything
behind_asked Databases last = page_asked (refl, refl) refl
behind_asked Documents last = page_asked (refl, refl) refl
behind_asked Revisions last = page_asked (refl, refl) refl
behind_asked Locals last = page_asked (refl, refl) refl

-- the parameters are not shown
shows : (of : Checked) (params r : Row) → eval_all (columns_of of) (params ∷ r ∷ []) ≡ shown_of of r
shows Databases params r = refl
shows Documents params r = refl
shows Revisions params r = refl
shows Locals params r = refl

-- a row is shown as it is
whole : (of : Checked) (r : Row) → HasCells of r → shown_of of r ≡ r
whole Databases r k = ap (shown_of Databases) k ∙ sym k
whole Documents r k = ap (shown_of Documents) k ∙ sym k
whole Revisions r k = ap (shown_of Revisions) k.is ∙ sym k.is
whole Locals r k = ap (shown_of Locals) k ∙ sym k

-- a text that is such a statement
pub first_means : (of : Checked) (text : List ℕ) → text ≡ first_statement of → Shows [] of text
first_means of text is = subst (Shows [] of) (sym is) (first_is of)

pub behind_means : (of : Checked) (text : List ℕ) → text ≡ behind_statement of → Shows by_behind of text
behind_means of text is = subst (Shows by_behind of) (sym is) (behind_is of)

-- and asks for it
pub asks_first : (of : Checked) (text : List ℕ) → text ≡ first_statement of → IsAsked text (first_program (tree_of of) [] (columns_of of) number_order one) []
asks_first of text is = subst (λ t. IsAsked t (first_program (tree_of of) [] (columns_of of) number_order one) []) (sym is) (first_asked of)

pub asks_behind : (of : Checked) (text : List ℕ) (last : ℤ) → text ≡ behind_statement of → IsAsked text (first_program (tree_of of) by_behind (columns_of of) number_order one) (Int last ∷ [])
asks_behind of text last is = subst (λ t. IsAsked t (first_program (tree_of of) by_behind (columns_of of) number_order one) (Int last ∷ [])) (sym is) (behind_asked of last)

-- the rows that come next are shown as they are
next_whole : (of : Checked) (old : State) → IsShaped old.now → (last : Option ℤ) → next_rows (shown_of of) last (old.now.trees (tree_of of)) ≡ next_rows (λ r. r) last (old.now.trees (tree_of of))
next_whole of old fit last =
    let rows = old.now.trees (tree_of of) in
    shown_whole (shown_of of) last rows (all_weaker (HasCells of) (λ r. shown_of of r ≡ r) (whole of) rows (cells_of old.now.trees fit.shaped of))

-- what it shows is the next row
module _ {X E : Type 0} (of : Checked) {text : List ℕ} (old new : State) (fit : IsShaped old.now) where
  pub lists_first : Shows [] of text → (r : Result X E) (items : X → List Row) → IfOk r (λ x. Shown text [] old new (items x)) → IfOk r (λ x. items x ≡ next_rows (λ y. y) None (old.now.trees (tree_of of)))
  lists_first means r items h =
      subst (λ l. IfOk r (λ x. items x ≡ l)) (next_whole of old fit None)
      (walks_first old new fit.schema_is (numbered_rows old.now.trees fit.shaped of) means (shown_of of) (shows of []) r items h)

  pub lists_behind : Shows by_behind of text → (last : ℤ) (r : Result X E) (items : X → List Row) → IfOk r (λ x. Shown text (Int last ∷ []) old new (items x))
      → IfOk r (λ x. items x ≡ next_rows (λ y. y) (Some last) (old.now.trees (tree_of of)))
  lists_behind means last r items h =
      subst (λ l. IfOk r (λ x. items x ≡ l)) (next_whole of old fit (Some last))
      (walks_behind old new fit.schema_is (numbered_rows old.now.trees fit.shaped of) means last (shown_of of) (shows of (Int last ∷ [])) r items h)

-- ---- rows by their keys

abbrev pub length_text : List ℕ
length_text = codes "SELECT seq FROM dbs WHERE num = ?1"

pub length_is : IsCommand schema length_text (Select (program_on dbs_tree by_number (col 1 4 ∷ []) []) (codes "seq" ∷ []))
unfolding understood everything
length_is = record { is = refl; plain = (refl, refl); unlisted = refl }

pub length_asked : (n : ℤ) → IsAsked length_text (program_on dbs_tree by_number (col 1 4 ∷ []) []) (Int n ∷ [])
unfolding understood everything
length_asked n = page_asked (refl, refl) refl

pub history_asked : (db : ℤ) (id : List ℕ) → IsAsked revisions_text (program_on revs_tree by_id (col 1 3 ∷ col 1 4 ∷ col 1 5 ∷ col 1 6 ∷ col 1 7 ∷ col 1 8 ∷ []) []) (Int db ∷ Blob id ∷ [])
unfolding understood everything
history_asked db id = page_asked (refl, refl) refl

abbrev sequence_text : List ℕ
sequence_text = codes "SELECT seq FROM docs WHERE db = ?1 AND seq = ?2"

abbrev by_sequence : List Term
by_sequence = compares Eq 1 0 ∷ compares Eq 3 1 ∷ []

pub sequence_is : IsCommand schema sequence_text (Select (program_on docs_tree by_sequence (col 1 3 ∷ []) []) (codes "seq" ∷ []))
unfolding understood everything
sequence_is = record { is = refl; plain = (refl, refl); unlisted = refl }

pub sequence_asked : (db sequence : ℤ) → IsAsked sequence_text (program_on docs_tree by_sequence (col 1 3 ∷ []) []) (Int db ∷ Int sequence ∷ [])
unfolding understood everything
sequence_asked db sequence = page_asked (refl, refl) refl

abbrev pub stored_text : List ℕ
stored_text = codes "SELECT n FROM revs WHERE db = ?1 AND id = ?2 AND n = ?3 AND hash = ?4"

abbrev by_stored : List Term
by_stored = compares Eq 1 0 ∷ compares Eq 2 1 ∷ compares Eq 3 2 ∷ compares Eq 4 3 ∷ []

pub stored_are : IsCommand schema stored_text (Select (program_on revs_tree by_stored (col 1 3 ∷ []) []) (codes "n" ∷ []))
unfolding understood everything
stored_are = record { is = refl; plain = (refl, refl); unlisted = refl }

pub stored_asked : (db : ℤ) (id : List ℕ) (n : ℤ) (hash : List ℕ) → IsAsked stored_text (program_on revs_tree by_stored (col 1 3 ∷ []) []) (Int db ∷ Blob id ∷ Int n ∷ Text hash ∷ [])
unfolding understood everything
stored_asked db id n hash = page_asked (refl, refl) refl

abbrev pub hashes_text : List ℕ
hashes_text = codes "SELECT hash FROM revs WHERE db = ?1 AND id = ?2 AND n = ?3"

abbrev by_numbered : List Term
by_numbered = compares Eq 1 0 ∷ compares Eq 2 1 ∷ compares Eq 3 2 ∷ []

pub hashes_are : IsCommand schema hashes_text (Select (program_on revs_tree by_numbered (col 1 4 ∷ []) []) (codes "hash" ∷ []))
unfolding understood everything
hashes_are = record { is = refl; plain = (refl, refl); unlisted = refl }

pub hashes_asked : (db : ℤ) (id : List ℕ) (n : ℤ) → IsAsked hashes_text (program_on revs_tree by_numbered (col 1 4 ∷ []) []) (Int db ∷ Blob id ∷ Int n ∷ [])
unfolding understood everything
hashes_asked db id n = page_asked (refl, refl) refl

pub document_asked : (db : ℤ) (id : List ℕ) → IsAsked document_text (program_on docs_tree by_id listed []) (Int db ∷ Blob id ∷ [])
unfolding understood everything
document_asked db id = page_asked (refl, refl) refl

pub documents_keyed : (old : State) → IsShaped old.now → AreKeyed (old.now.trees docs_tree)
documents_keyed old fit = record {
  keyed = all_weaker HasDocumentCells IsKeyed (λ r k. record { number = ap rowid k; db = ap (λ x. column x 1) k; id = ap (λ x. column x 2) k }) (old.now.trees docs_tree) fit.shaped.docs;
  rising = fit.shaped.kept.docs.rising;
}

pub revisions_keyed : (old : State) → IsShaped old.now → AreKeyed (old.now.trees revs_tree)
revisions_keyed old fit = record {
  keyed = all_weaker HasRevisionCells IsKeyed (λ r k. record { number = ap rowid k.is; db = ap (λ x. column x 1) k.is; id = ap (λ x. column x 2) k.is }) (old.now.trees revs_tree) fit.shaped.revs;
  rising = fit.shaped.kept.revs.rising;
}

tests_sequence : (db sequence : ℤ) (rows : List Row) → AllByRecursion HasDocumentCells rows
    → AllByRecursion (λ r. list_all (holds ((Int db ∷ Int sequence ∷ []) ∷ r ∷ [])) by_sequence ≡ is_at_sequence db sequence r) rows
tests_sequence db sequence rows all =
    all_weaker HasDocumentCells (λ r. list_all (holds ((Int db ∷ Int sequence ∷ []) ∷ r ∷ [])) by_sequence ≡ is_at_sequence db sequence r)
    (λ r k.
    then_term (int_by Eq (column r 1) (db_of r) db (ap (λ x. column x 1) k))
    (last_term (int_by Eq (column r 3) (whole_in_cell (column r 3)) sequence (ap (λ x. column x 3) k)))) rows all

tests_stored : (db : ℤ) (id : List ℕ) (n : ℤ) (hash : List ℕ) (rows : List Row) → AllByRecursion HasRevisionCells rows
    → AllByRecursion (λ r. list_all (holds ((Int db ∷ Blob id ∷ Int n ∷ Text hash ∷ []) ∷ r ∷ [])) by_stored ≡ is_stored db id n hash r) rows
tests_stored db id n hash rows all =
    all_weaker HasRevisionCells (λ r. list_all (holds ((Int db ∷ Blob id ∷ Int n ∷ Text hash ∷ []) ∷ r ∷ [])) by_stored ≡ is_stored db id n hash r)
    (λ r k.
    then_term (int_by Eq (column r 1) (db_of r) db (ap (λ x. column x 1) k.is))
    (then_term (same_blob (column r 2) (id_of r) id (ap (λ x. column x 2) k.is))
    (then_term (int_by Eq (column r 3) (whole_in_cell (column r 3)) n (ap (λ x. column x 3) k.is))
    (last_term (same_text (column r 4) (bytes (column r 4)) hash (ap (λ x. column x 4) k.is)))))) rows all

tests_numbered : (db : ℤ) (id : List ℕ) (n : ℤ) (rows : List Row) → AllByRecursion HasRevisionCells rows
    → AllByRecursion (λ r. list_all (holds ((Int db ∷ Blob id ∷ Int n ∷ []) ∷ r ∷ [])) by_numbered ≡ is_numbered db id n r) rows
tests_numbered db id n rows all =
    all_weaker HasRevisionCells (λ r. list_all (holds ((Int db ∷ Blob id ∷ Int n ∷ []) ∷ r ∷ [])) by_numbered ≡ is_numbered db id n r)
    (λ r k.
    then_term (int_by Eq (column r 1) (db_of r) db (ap (λ x. column x 1) k.is))
    (then_term (same_blob (column r 2) (id_of r) id (ap (λ x. column x 2) k.is))
    (last_term (int_by Eq (column r 3) (whole_in_cell (column r 3)) n (ap (λ x. column x 3) k.is))))) rows all

module _ {X E : Type 0} (old new : State) (fit : IsShaped old.now) where
  pub finds_length : (n : ℤ) (r : Result X E) (items : X → List Row) → IfOk r (λ x. Shown length_text (Int n ∷ []) old new (items x)) → IfOk r (λ x. items x ≡ map shown_length (filter (has_number n) (old.now.trees dbs_tree)))
  finds_length n =
      finds_one old new fit.schema_is length_is (Int n ∷ []) (has_number n) shown_length refl (λ x. refl) (tests_number n [] _ fit.shaped.kept.dbs) (one_numbered (old.now.trees dbs_tree) fit.shaped.kept.dbs.rising n)

  pub finds_document_row : (db : ℤ) (id : List ℕ) (r : Result X E) (items : X → List Row) → IfOk r (λ x. Shown document_text (Int db ∷ Blob id ∷ []) old new (items x))
      → IfOk r (λ x. items x ≡ map listed_document (filter (is_row_of_document db id) (old.now.trees docs_tree)))
  finds_document_row db id =
      finds_one old new fit.schema_is document_is (Int db ∷ Blob id ∷ []) (is_row_of_document db id) listed_document refl (λ r. refl) (tests_id db id [] _ (documents_keyed old fit)) (one_of (old.now.trees docs_tree) fit.shaped.ids_apart db id)

  pub finds_sequence : (db sequence : ℤ) (r : Result X E) (items : X → List Row) → IfOk r (λ x. Shown sequence_text (Int db ∷ Int sequence ∷ []) old new (items x))
      → IfOk r (λ x. IsPermutation (map shown_sequence (filter (is_at_sequence db sequence) (old.now.trees docs_tree))) (items x))
  finds_sequence db sequence = finds_where old new fit.schema_is sequence_is (Int db ∷ Int sequence ∷ []) (is_at_sequence db sequence) shown_sequence refl (λ s. refl) (tests_sequence db sequence (old.now.trees docs_tree) fit.shaped.docs)

  pub finds_history : (db : ℤ) (id : List ℕ) (r : Result X E) (items : X → List Row) → IfOk r (λ x. Shown revisions_text (Int db ∷ Blob id ∷ []) old new (items x))
      → IfOk r (λ x. IsPermutation (map shown_revision (filter (is_row_of_document db id) (old.now.trees revs_tree))) (items x))
  finds_history db id = finds_where old new fit.schema_is revisions_are (Int db ∷ Blob id ∷ []) (is_row_of_document db id) shown_revision refl (λ r. refl) (tests_id db id [] _ (revisions_keyed old fit))

  pub finds_stored : (db : ℤ) (id : List ℕ) (n : ℤ) (hash : List ℕ) (r : Result X E) (items : X → List Row) → IfOk r (λ x. Shown stored_text (Int db ∷ Blob id ∷ Int n ∷ Text hash ∷ []) old new (items x))
      → IfOk r (λ x. IsPermutation (map shown_stored (filter (is_stored db id n hash) (old.now.trees revs_tree))) (items x))
  finds_stored db id n hash = finds_where old new fit.schema_is stored_are (Int db ∷ Blob id ∷ Int n ∷ Text hash ∷ []) (is_stored db id n hash) shown_stored refl (λ s. refl) (tests_stored db id n hash (old.now.trees revs_tree) fit.shaped.revs)

  pub finds_hashes : (db : ℤ) (id : List ℕ) (n : ℤ) (r : Result X E) (items : X → List Row) → IfOk r (λ x. Shown hashes_text (Int db ∷ Blob id ∷ Int n ∷ []) old new (items x))
      → IfOk r (λ x. IsPermutation (map shown_numbered (filter (is_numbered db id n) (old.now.trees revs_tree))) (items x))
  finds_hashes db id n = finds_where old new fit.schema_is hashes_are (Int db ∷ Blob id ∷ Int n ∷ []) (is_numbered db id n) shown_numbered refl (λ s. refl) (tests_numbered db id n (old.now.trees revs_tree) fit.shaped.revs)
