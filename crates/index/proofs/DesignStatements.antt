-- What the statement on the declarations of a design document means.
use Rattle.index.proofs.Common.{AllByRecursion, AreDeclarationRows, Binary, Blob, Eq, HasIndexRows, IfOk, Int, IsCommand, IsDeclarationRow, Key, Less-from_lt, List, Result, Row, Select, Shown, State, Term, [], all_weaker, ap, ap₂, ascending-filter, codes, col, column, compares, decls_tree, design_of, everything, false, filter, holds, database_of_declaration, int_by, is_eq, last_term, list_all, lists, map, number_of, program_on, refl, rowid, same_blob, schema, shown_declaration, subst, then-Equal, then_term, understood, value_cmp, value_cmp-Int, ℕ, ℤ, ◌<ℤ◌, ◌∙◌, ◌∷◌, ◌≡◌}
use Rattle.index.specs.Rebuilding.{is_of_design}
use Rattle.tables.proofs.Sorted.{by_their_numbers, sorted_already}

abbrev by_design : List Term
by_design = compares Eq 2 0 ∷ compares Eq 3 1 ∷ []

tests_design : (db : ℤ) (design : List ℕ) (rows : List Row) → AreDeclarationRows rows → AllByRecursion (λ r. list_all (holds ((Int db ∷ Blob design ∷ []) ∷ r ∷ [])) by_design ≡ is_of_design db design r) rows
tests_design db design rows h =
    all_weaker IsDeclarationRow (λ r. list_all (holds ((Int db ∷ Blob design ∷ []) ∷ r ∷ [])) by_design ≡ is_of_design db design r)
    (λ r k. then_term (int_by Eq (column r 2) (database_of_declaration r) db (ap (λ x. column x 2) k.is)) (last_term (same_blob (column r 3) (design_of r) design (ap (λ x. column x 3) k.is)))) rows h.each

abbrev shown : List Term
shown = col 1 0 ∷ col 1 4 ∷ col 1 5 ∷ []

abbrev headings : List (List ℕ)
headings = codes "num" ∷ codes "name" ∷ codes "fields" ∷ []

abbrev number_order : List (Term × Key)
number_order = (col 1 0, record { collation = Binary; descending = false }) ∷ []

abbrev design_text : List ℕ
design_text = codes "SELECT num, name, fields FROM decls WHERE db = ?1 AND ddoc = ?2 ORDER BY num"

pub design_is : IsCommand schema design_text (Select (program_on decls_tree by_design shown number_order) headings)
unfolding understood everything
design_is = record { is = refl; plain = (refl, refl); unlisted = refl }

module _ {X E : Type 0} (old new : State) (is : HasIndexRows old.now) (db : ℤ) (design : List ℕ) where
  pub lists_design : (r : Result X E) (items : X → List Row) → IfOk r (λ x. Shown design_text (Int db ∷ Blob design ∷ []) old new (items x))
      → IfOk r (λ x. items x ≡ map shown_declaration (filter (is_of_design db design) (old.now.trees decls_tree)))
  lists_design r items h =
      subst (λ l. IfOk r (λ x. items x ≡ map shown_declaration l)) (sorted_already (filter (is_of_design db design) (old.now.trees decls_tree)) (ascending-filter _ (is_of_design db design) (old.now.trees decls_tree) is.decls.rising))
      (lists old new is.schema_is design_is (Int db ∷ Blob design ∷ []) (is_of_design db design) shown_declaration IsDeclarationRow by_their_numbers (λ a b. number_of a <ℤ number_of b)
      (λ a b k l. then-Equal (value_cmp (rowid a) (rowid b)) ∙ ap₂ value_cmp (ap rowid k.is) (ap rowid l.is) ∙ value_cmp-Int (number_of a) (number_of b))
      (λ a b k l p q below. ap is_eq (Less-from_lt (number_of a) (number_of b) below)) refl (λ x. refl) (tests_design db design _ is.decls) is.decls.each is.decls.rising r items h)
