-- What the statements on declarations mean.
use Rattle.index.proofs.Common.{AllByRecursion, AreDeclarationRows, AreNumbered, Binary, Blob, Delete, Eq, HasIndexRows, HasOneAtMost, IfOk, Insert, Int, IsCommand, IsDeclarationRow, Key, Less-from_lt, List, Null, Result, Row, Select, Shown, State, Term, Text, Values, [], all_weaker, and_parts, ap, ap₂, ascending-filter, ascending_weaker, by_number, bytes_eq, bytes_eq-Decides, cast_int, cast_null, cast_row, codes, col, column, compares, declaration_cells, decls_table, decls_tree, design_of, everything, false, filter, finds_one, holds, database_of_declaration, index_name_of_row, int_by, is_at_home, is_declaration_of, is_eq, last_term, list_all, lists, lit, map, number_of, program_on, refl, rowid, same_blob, same_int, schema, shown_declaration, subst, sym, then-Equal, then_term, true, understood, value_cmp, value_cmp-Int, ℕ, ℤ, ◌<ℤ◌, ◌∙◌, ◌∷◌, ◌≡◌, ◌≢◌}
use Rattle.tables.proofs.Sorted.{by_their_numbers, sorted_already}

abbrev pub by_home : List Term
by_home = compares Eq 2 0 ∷ []

abbrev pub by_index : List Term
by_index = compares Eq 2 0 ∷ compares Eq 3 1 ∷ compares Eq 4 2 ∷ []

pub numbered_declarations : (rows : List Row) → AreDeclarationRows rows → AreNumbered rows
numbered_declarations rows h = record { numbers = all_weaker IsDeclarationRow (λ r. rowid r ≡ Int (number_of r)) (λ r k. ap rowid k.is) rows h.each; rising = h.rising }

pub tests_home : (db : ℤ) (rows : List Row) → AreDeclarationRows rows → AllByRecursion (λ r. list_all (holds ((Int db ∷ []) ∷ r ∷ [])) by_home ≡ is_at_home db r) rows
tests_home db rows h =
    all_weaker IsDeclarationRow (λ r. list_all (holds ((Int db ∷ []) ∷ r ∷ [])) by_home ≡ is_at_home db r) (λ r k. last_term (int_by Eq (column r 2) (database_of_declaration r) db (ap (λ x. column x 2) k.is))) rows h.each

pub tests_index : (db : ℤ) (design name : List ℕ) (rows : List Row) → AreDeclarationRows rows
    → AllByRecursion (λ r. list_all (holds ((Int db ∷ Blob design ∷ Blob name ∷ []) ∷ r ∷ [])) by_index ≡ is_declaration_of db design name r) rows
tests_index db design name rows h =
    all_weaker IsDeclarationRow (λ r. list_all (holds ((Int db ∷ Blob design ∷ Blob name ∷ []) ∷ r ∷ [])) by_index ≡ is_declaration_of db design name r)
    (λ r k. then_term (int_by Eq (column r 2) (database_of_declaration r) db (ap (λ x. column x 2) k.is))
    (then_term (same_blob (column r 3) (design_of r) design (ap (λ x. column x 3) k.is)) (last_term (same_blob (column r 4) (index_name_of_row r) name (ap (λ x. column x 4) k.is))))) rows h.each

-- a row of an index is of this database, this design document and this name
pub of_index : (db : ℤ) (design name : List ℕ) (r : Row) → is_declaration_of db design name r ≡ true → (database_of_declaration r ≡ db) × (design_of r ≡ design) × (index_name_of_row r ≡ name)
of_index db design name r is =
    let parts = and_parts (is_at_home db r) _ is in
    let more = and_parts (bytes_eq (design_of r) design) _ parts.1 in
    (same_int (database_of_declaration r) db parts.0, (bytes_eq-Decides (design_of r) design).0 more.0, (bytes_eq-Decides (index_name_of_row r) name).0 more.1)

-- at most one row is of an index
pub one_of_index : (rows : List Row) → AreDeclarationRows rows → (db : ℤ) (design name : List ℕ) → HasOneAtMost (is_declaration_of db design name) rows
one_of_index rows h db design name =
    ascending_weaker (λ a b. database_of_declaration a ≡ database_of_declaration b → design_of a ≡ design_of b → index_name_of_row a ≢ index_name_of_row b) (λ a b. is_declaration_of db design name a ≡ true → is_declaration_of db design name b ≡ true → ⊥)
    (λ a b apart p q. let x = of_index db design name a p in let y = of_index db design name b q in apart (x.0 ∙ sym y.0) (x.1 ∙ sym y.1) (x.2 ∙ sym y.2)) rows h.apart

-- ---- the statements

abbrev shown : List Term
shown = col 1 0 ∷ col 1 4 ∷ col 1 5 ∷ []

abbrev headings : List (List ℕ)
headings = codes "num" ∷ codes "name" ∷ codes "fields" ∷ []

abbrev number_order : List (Term × Key)
number_order = (col 1 0, record { collation = Binary; descending = false }) ∷ []

abbrev pub home_text : List ℕ
home_text = codes "SELECT num, name, fields FROM decls WHERE db = ?1 ORDER BY num"

abbrev pub index_text : List ℕ
index_text = codes "SELECT num, name, fields FROM decls WHERE db = ?1 AND ddoc = ?2 AND name = ?3"

pub home_is : IsCommand schema home_text (Select (program_on decls_tree by_home shown number_order) headings)
unfolding understood everything
home_is = record { is = refl; plain = (refl, refl); unlisted = refl }

pub index_is : IsCommand schema index_text (Select (program_on decls_tree by_index shown []) headings)
unfolding understood everything
index_is = record { is = refl; plain = (refl, refl); unlisted = refl }

pub inserts_declaration : IsCommand schema (codes "INSERT INTO decls (db, ddoc, name, fields) VALUES (?1, ?2, ?3, ?4)") (Insert 5 (Values (lit Null ∷ lit Null ∷ col 0 0 ∷ col 0 1 ∷ col 0 2 ∷ col 0 3 ∷ []) 6))
unfolding understood everything
inserts_declaration = record { is = refl; plain = (refl, refl); unlisted = refl }

pub deletes_declaration : IsCommand schema (codes "DELETE FROM decls WHERE num = ?1") (Delete 5 (program_on decls_tree by_number (col 1 0 ∷ []) []))
unfolding understood everything
deletes_declaration = record { is = refl; plain = (refl, refl); unlisted = refl }

pub clears_declarations : IsCommand schema (codes "DELETE FROM decls WHERE db = ?1") (Delete 5 (program_on decls_tree by_home (col 1 0 ∷ []) []))
unfolding understood everything
clears_declarations = record { is = refl; plain = (refl, refl); unlisted = refl }

pub cast_declaration : (db : ℤ) (design name fields : List ℕ) → cast_row decls_table (Null ∷ declaration_cells db design name fields) ≡ Null ∷ declaration_cells db design name fields
cast_declaration db design name fields = λ i. cast_null i ∷ cast_null i ∷ cast_int db i ∷ Blob design ∷ Blob name ∷ Text fields ∷ []

module _ {X E : Type 0} (old new : State) (is : HasIndexRows old.now) (db : ℤ) where
  pub lists_home : (r : Result X E) (items : X → List Row) → IfOk r (λ x. Shown home_text (Int db ∷ []) old new (items x))
      → IfOk r (λ x. items x ≡ map shown_declaration (filter (is_at_home db) (old.now.trees decls_tree)))
  lists_home r items h =
      subst (λ l. IfOk r (λ x. items x ≡ map shown_declaration l)) (sorted_already (filter (is_at_home db) (old.now.trees decls_tree)) (ascending-filter _ (is_at_home db) (old.now.trees decls_tree) is.decls.rising))
      (lists old new is.schema_is home_is (Int db ∷ []) (is_at_home db) shown_declaration IsDeclarationRow by_their_numbers (λ a b. number_of a <ℤ number_of b)
      (λ a b k l. then-Equal (value_cmp (rowid a) (rowid b)) ∙ ap₂ value_cmp (ap rowid k.is) (ap rowid l.is) ∙ value_cmp-Int (number_of a) (number_of b))
      (λ a b k l p q below. ap is_eq (Less-from_lt (number_of a) (number_of b) below)) refl (λ x. refl) (tests_home db _ is.decls) is.decls.each is.decls.rising r items h)

  pub finds_index : (design name : List ℕ) (r : Result X E) (items : X → List Row) → IfOk r (λ x. Shown index_text (Int db ∷ Blob design ∷ Blob name ∷ []) old new (items x))
      → IfOk r (λ x. items x ≡ map shown_declaration (filter (is_declaration_of db design name) (old.now.trees decls_tree)))
  finds_index design name =
      finds_one old new is.schema_is index_is (Int db ∷ Blob design ∷ Blob name ∷ []) (is_declaration_of db design name) shown_declaration refl (λ x. refl) (tests_index db design name _ is.decls)
      (one_of_index (old.now.trees decls_tree) is.decls db design name)
