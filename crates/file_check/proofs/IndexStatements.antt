-- What the statements of the check of indexes mean.
use Rattle.index.proofs.Common.{AreEntryRows, Blob, HasIndexRows, HasOneAtMost, IfOk, Int, IsCommand, IsDeclarationRow, Less-from_lt, List, None, Result, Row, Select, Shown, Some, State, Term, [], ap, ap₂, ascending-filter, ascending_weaker, codes, col, column, decls_tree, entries_tree, everything, filter, finds_one, has_number, is_at_home, is_entry_of, is_eq, lists, map, number_of, program_on, refl, rowid, schema, subst, sym, then-Equal, true, understood, value_cmp, value_cmp-Int, ℕ, ℤ, ◌<ℤ◌, ◌∙◌, ◌∷◌, ◌≡◌}
use Rattle.sqlite_sql.specs.Term.{eval_all}
use Rattle.index.proofs.DeclarationStatements.{by_home, numbered_declarations, tests_home}
use Rattle.index.proofs.EntryChanges.{of_entry}
use Rattle.index.proofs.EntryStatements.{by_entry, tests_entry}
use Rattle.tables.proofs.DatabaseStatements.{by_number, tests_number}
use Rattle.tables.proofs.Queries.{first_program}
use Rattle.tables.proofs.Sorted.{by_their_numbers, sorted_already}
use Rattle.tables.proofs.Tables.{one_numbered}
use Rattle.file_check.specs.inner.IndexRows.{IsReady, indexed_tree, shown_index, shown_next}
use Rattle.file_check.specs.inner.Statements.{behind_indexed, first_indexed}
use Rattle.file_check.specs.inner.Walks.{next_rows}
use Rattle.file_check.specs.declared.indexes.indexed.Indexed.{Indexed}
use Rattle.file_check.specs.declared.indexes.indexed.Indexed.TheVariants.{Declarations, Documents, Entries}
use Rattle.file_check.proofs.IndexedTables.{numbered_rows, schema_ready}
use Rattle.file_check.proofs.WalkStatements.{by_behind, number_order, one, walks_behind, walks_first}

-- ---- the next row

-- the names of the columns that a walk shows of a table
abbrev headings_of : Indexed → List (List ℕ)
headings_of Declarations = codes "num" ∷ codes "db" ∷ codes "ddoc" ∷ codes "name" ∷ codes "fields" ∷ []
headings_of Documents = codes "rowid" ∷ codes "db" ∷ codes "id" ∷ []
headings_of Entries = codes "rowid" ∷ codes "decl" ∷ codes "k" ∷ codes "id" ∷ []

-- the columns
abbrev cells_of : Indexed → List Term
cells_of Declarations = col 1 0 ∷ col 1 2 ∷ col 1 3 ∷ col 1 4 ∷ col 1 5 ∷ []
cells_of Documents = col 1 0 ∷ col 1 1 ∷ col 1 2 ∷ []
cells_of Entries = col 1 0 ∷ col 1 1 ∷ col 1 2 ∷ col 1 3 ∷ []

-- the statement shows the first row of a table that passes these tests
abbrev Shows : List Term → Indexed → List ℕ → Type 0
Shows tests of text = IsCommand schema text (Select (first_program (indexed_tree of) tests (cells_of of) number_order one) (headings_of of))

-- each first statement does so with no test
first_is : (of : Indexed) → Shows [] of (first_indexed of)
unfolding understood everything
first_is Declarations = record { is = refl; plain = (refl, refl); unlisted = refl }
first_is Documents = record { is = refl; plain = (refl, refl); unlisted = refl }
first_is Entries = record { is = refl; plain = (refl, refl); unlisted = refl }

-- each other one does so with the test of the number
behind_is : (of : Indexed) → Shows by_behind of (behind_indexed of)
unfolding understood everything
behind_is Declarations = record { is = refl; plain = (refl, refl); unlisted = refl }
behind_is Documents = record { is = refl; plain = (refl, refl); unlisted = refl }
behind_is Entries = record { is = refl; plain = (refl, refl); unlisted = refl }

-- what is shown of a row, whatever the parameters are
shows : (of : Indexed) (params r : Row) → eval_all (cells_of of) (params ∷ r ∷ []) ≡ shown_next of r
shows Declarations params r = refl
shows Documents params r = refl
shows Entries params r = refl

-- a text that is such a statement
pub first_means : (of : Indexed) (text : List ℕ) → text ≡ first_indexed of → Shows [] of text
first_means of text is = subst (Shows [] of) (sym is) (first_is of)

pub behind_means : (of : Indexed) (text : List ℕ) → text ≡ behind_indexed of → Shows by_behind of text
behind_means of text is = subst (Shows by_behind of) (sym is) (behind_is of)

-- what it shows is the next row
module _ {X E : Type 0} (of : Indexed) {text : List ℕ} (old new : State) (fit : IsReady of old.now) where
  pub lists_first : Shows [] of text → (r : Result X E) (items : X → List Row) → IfOk r (λ x. Shown text [] old new (items x)) → IfOk r (λ x. items x ≡ next_rows (shown_next of) None (old.now.trees (indexed_tree of)))
  lists_first means = walks_first old new (schema_ready of old.now fit) (numbered_rows of old.now fit) means (shown_next of) (shows of [])

  pub lists_behind : Shows by_behind of text → (last : ℤ) (r : Result X E) (items : X → List Row) → IfOk r (λ x. Shown text (Int last ∷ []) old new (items x))
      → IfOk r (λ x. items x ≡ next_rows (shown_next of) (Some last) (old.now.trees (indexed_tree of)))
  lists_behind means last = walks_behind old new (schema_ready of old.now fit) (numbered_rows of old.now fit) means last (shown_next of) (shows of (Int last ∷ []))

-- ---- one entry

abbrev pub own_entry_text : List ℕ
own_entry_text = codes "SELECT id FROM entries WHERE decl = ?1 AND k = ?2 AND id = ?3"

pub own_entry_is : IsCommand schema own_entry_text (Select (program_on entries_tree by_entry (col 1 3 ∷ []) []) (codes "id" ∷ []))
unfolding understood everything
own_entry_is = record { is = refl; plain = (refl, refl); unlisted = refl }

-- at most one row is an entry of an index, a key and a document
one_entry : (rows : List Row) → AreEntryRows rows → (declaration : ℤ) (k id : List ℕ) → HasOneAtMost (is_entry_of declaration k id) rows
one_entry rows h declaration k id =
    ascending_weaker _ (λ a b. is_entry_of declaration k id a ≡ true → is_entry_of declaration k id b ≡ true → ⊥)
    (λ a b apart p q. let x = of_entry declaration k id a p in let y = of_entry declaration k id b q in apart (x.0 ∙ sym y.0) (x.1 ∙ sym y.1) (x.2 ∙ sym y.2)) rows h.apart

module _ {X E : Type 0} (old new : State) (is : HasIndexRows old.now) where
  pub finds_entry : (declaration : ℤ) (k id : List ℕ) (r : Result X E) (items : X → List Row) → IfOk r (λ x. Shown own_entry_text (Int declaration ∷ Blob k ∷ Blob id ∷ []) old new (items x))
      → IfOk r (λ x. items x ≡ map (λ e. column e 3 ∷ []) (filter (is_entry_of declaration k id) (old.now.trees entries_tree)))
  finds_entry declaration k id =
      finds_one old new is.schema_is own_entry_is (Int declaration ∷ Blob k ∷ Blob id ∷ []) (is_entry_of declaration k id) (λ e. column e 3 ∷ []) refl (λ e. refl)
      (tests_entry declaration k id (old.now.trees entries_tree) is.entries) (one_entry (old.now.trees entries_tree) is.entries declaration k id)

-- ---- the names of indexes

abbrev index_headings : List (List ℕ)
index_headings = codes "db" ∷ codes "ddoc" ∷ codes "name" ∷ []

abbrev index_cells : List Term
index_cells = col 1 2 ∷ col 1 3 ∷ col 1 4 ∷ []

abbrev pub number_text : List ℕ
number_text = codes "SELECT db, ddoc, name FROM decls WHERE num = ?1"

abbrev pub home_text : List ℕ
home_text = codes "SELECT db, ddoc, name FROM decls WHERE db = ?1 ORDER BY num"

pub number_is : IsCommand schema number_text (Select (program_on decls_tree by_number index_cells []) index_headings)
unfolding understood everything
number_is = record { is = refl; plain = (refl, refl); unlisted = refl }

pub home_is : IsCommand schema home_text (Select (program_on decls_tree by_home index_cells number_order) index_headings)
unfolding understood everything
home_is = record { is = refl; plain = (refl, refl); unlisted = refl }

module _ {X E : Type 0} (old new : State) (is : HasIndexRows old.now) where
  pub finds_number : (n : ℤ) (r : Result X E) (items : X → List Row) → IfOk r (λ x. Shown number_text (Int n ∷ []) old new (items x))
      → IfOk r (λ x. items x ≡ map shown_index (filter (has_number n) (old.now.trees decls_tree)))
  finds_number n =
      finds_one old new is.schema_is number_is (Int n ∷ []) (has_number n) shown_index refl (λ r. refl) (tests_number n [] (old.now.trees decls_tree) (numbered_declarations (old.now.trees decls_tree) is.decls))
      (one_numbered (old.now.trees decls_tree) is.decls.rising n)

  pub lists_home : (db : ℤ) (r : Result X E) (items : X → List Row) → IfOk r (λ x. Shown home_text (Int db ∷ []) old new (items x))
      → IfOk r (λ x. items x ≡ map shown_index (filter (is_at_home db) (old.now.trees decls_tree)))
  lists_home db r items h =
      subst (λ l. IfOk r (λ x. items x ≡ map shown_index l)) (sorted_already (filter (is_at_home db) (old.now.trees decls_tree)) (ascending-filter _ (is_at_home db) (old.now.trees decls_tree) is.decls.rising))
      (lists old new is.schema_is home_is (Int db ∷ []) (is_at_home db) shown_index IsDeclarationRow by_their_numbers (λ a b. number_of a <ℤ number_of b)
      (λ a b k l. then-Equal (value_cmp (rowid a) (rowid b)) ∙ ap₂ value_cmp (ap rowid k.is) (ap rowid l.is) ∙ value_cmp-Int (number_of a) (number_of b))
      (λ a b k l p q below. ap is_eq (Less-from_lt (number_of a) (number_of b) below)) refl (λ x. refl) (tests_home db _ is.decls) is.decls.each is.decls.rising r items h)
