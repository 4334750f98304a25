-- What the statement on documents of all databases, whose ids lie between two bounds, means.
use Rattle.tables.proofs.Common.{AllByRecursion, Binary, Blob, IfOk, IsStore, Key, Less-from_lt, List, Result, Row, Select, Shown, State, Term, [], all_weaker, ap, ap₂, ascending-filter, codes, col, column, docs_tree, everything, false, filter, holds, id_of, is_eq, list_all, map, number_of, refl, rowid, schema, subst, then-Equal, understood, value_cmp, value_cmp-Int, ℕ, ◌<ℤ◌, ◌∙◌, ◌∷◌, ◌≡◌}
use Rattle.sqlite_sql.specs.declared.ops.CompareOp.TheVariants.{Ge, Lt}
use Rattle.sqlite_typed.proofs.TestLemmas.{last_term, then_term}
use Rattle.tables.proofs.Cells.{blob_by, compares}
use Rattle.tables.proofs.DocumentStatements.{IsOne, ones}
use Rattle.tables.proofs.Queries.{program_on}
use Rattle.tables.proofs.Pages.{lists}
use Rattle.tables.proofs.Sorted.{by_their_numbers, sorted_already}
use Rattle.tables.proofs.Writes.{IsCommand}
use Rattle.tables.specs.Listings.{has_id_between, named_document}

abbrev by_ids : List Term
by_ids = compares Ge 2 0 ∷ compares Lt 2 1 ∷ []

tests_ids : (low high : List ℕ) (rows : List Row) → AllByRecursion IsOne rows → AllByRecursion (λ r. list_all (holds ((Blob low ∷ Blob high ∷ []) ∷ r ∷ [])) by_ids ≡ has_id_between low high r) rows
tests_ids low high rows all =
    all_weaker IsOne (λ r. list_all (holds ((Blob low ∷ Blob high ∷ []) ∷ r ∷ [])) by_ids ≡ has_id_between low high r)
    (λ r k. then_term (blob_by Ge (column r 2) (id_of r) low (ap (λ x. column x 2) k)) (last_term (blob_by Lt (column r 2) (id_of r) high (ap (λ x. column x 2) k)))) rows all

abbrev number_order : List (Term × Key)
number_order = (col 1 0, record { collation = Binary; descending = false }) ∷ []

abbrev pub between_text : List ℕ
between_text = codes "SELECT db, id FROM docs WHERE id >= ?1 AND id < ?2 ORDER BY rowid"

pub between_is : IsCommand schema between_text (Select (program_on docs_tree by_ids (col 1 1 ∷ col 1 2 ∷ []) number_order) (codes "db" ∷ codes "id" ∷ []))
unfolding understood everything
between_is = record { is = refl; plain = (refl, refl); unlisted = refl }

pub lists_between : {X E : Type 0} (old new : State) → IsStore old.now → (low high : List ℕ) (r : Result X E) (items : X → List Row) → IfOk r (λ x. Shown between_text (Blob low ∷ Blob high ∷ []) old new (items x))
    → IfOk r (λ x. items x ≡ map named_document (filter (has_id_between low high) (old.now.trees docs_tree)))
lists_between old new is low high r items h =
    subst (λ l. IfOk r (λ x. items x ≡ map named_document l)) (sorted_already (filter (has_id_between low high) (old.now.trees docs_tree)) (ascending-filter _ (has_id_between low high) (old.now.trees docs_tree) is.laid.docs_numbered.rising))
    (lists old new is.schema_is between_is (Blob low ∷ Blob high ∷ []) (has_id_between low high) named_document IsOne by_their_numbers (λ a b. number_of a <ℤ number_of b)
    (λ a b k l. then-Equal (value_cmp (rowid a) (rowid b)) ∙ ap₂ value_cmp (ap rowid k) (ap rowid l) ∙ value_cmp-Int (number_of a) (number_of b))
    (λ a b k l p q below. ap is_eq (Less-from_lt (number_of a) (number_of b) below)) refl (λ x. refl) (tests_ids low high _ (ones old is)) (ones old is) is.laid.docs_numbered.rising r items h)
