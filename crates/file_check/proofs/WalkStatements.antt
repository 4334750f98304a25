-- What a statement means that shows one row of a table: the first, or the first one behind a number.
use Rattle.index.proofs.Common.{AllByRecursion, AreNumbered, Binary, Bool, IfOk, Int, IsCommand, Key, Less-from_lt, List, None, Result, Row, Select, Shown, Some, State, Term, Trees, [], all_weaker, ap, ap₂, ascending-filter, col, column, false, filter, holds, is_eq, last_term, list_all, lists, lit, map, number_of, pos, refl, rowid, schema, subst, take, then-Equal, true, value_cmp, value_cmp-Int, ℕ, ℤ, ◌<ℤ◌, ◌∙◌, ◌∷◌, ◌≡◌, compares, int_by}
use Rattle.std.specs.Prelude.{if◌then◌else◌, nat_le, slice_get, unwrap_or, ◌-◌, ◌^◌}
use Rattle.sqlite_sql.specs.Program.{overlay}
use Rattle.sqlite_sql.specs.Term.{eval_all}
use Rattle.sqlite_sql.specs.declared.ops.CompareOp.TheVariants.{Gt}
use Rattle.tables.proofs.Queries.{first_program}
use Rattle.tables.proofs.Sorted.{by_their_numbers, sorted_already}
use Rattle.file_check.specs.inner.Walks.{is_behind, next_rows}

-- no other table covers those of the file
pub uncovered : (trees : Trees) (tree : ℕ) → overlay trees [] tree ≡ trees tree
uncovered trees tree = either (nat_le (2 ^ 31) tree)
  where
    either : (b : Bool) → unwrap_or (if b then slice_get [] (tree - 2 ^ 31) else None) (trees tree) ≡ trees tree
    either true = refl
    either false = refl

-- by their numbers
abbrev pub number_order : List (Term × Key)
number_order = (col 1 0, record { collation = Binary; descending = false }) ∷ []

-- behind the number that is the parameter
abbrev pub by_behind : List Term
by_behind = compares Gt 0 0 ∷ []

-- one row at the most
abbrev pub one : Term
one = lit (Int (pos 1))

-- rows whose numbers rise, by their numbers: the first that passes the tests
module _ {X E : Type 0} (old new : State) (has : old.now.schema ≡ schema) {tree : ℕ} (n : AreNumbered (old.now.trees tree)) where
  -- with any tests
  walks : {text : List ℕ} {tests shown : List Term} {names : List (List ℕ)} → IsCommand schema text (Select (first_program tree tests shown number_order one) names) → (params : Row) (last : _) (show : Row → Row)
      → ((r : Row) → eval_all shown (params ∷ r ∷ []) ≡ show r) → AllByRecursion (λ r. list_all (holds (params ∷ r ∷ [])) tests ≡ is_behind last r) (old.now.trees tree)
      → (r : Result X E) (items : X → List Row) → IfOk r (λ x. Shown text params old new (items x)) → IfOk r (λ x. items x ≡ next_rows show last (old.now.trees tree))
  walks command params last show shows passes r items h =
      subst (λ l. IfOk r (λ x. items x ≡ take 1 (map show l))) (sorted_already (filter (is_behind last) (old.now.trees tree)) (ascending-filter _ (is_behind last) (old.now.trees tree) n.rising))
      (lists old new has command params (is_behind last) show (λ r. rowid r ≡ Int (number_of r)) by_their_numbers (λ a b. number_of a <ℤ number_of b)
      (λ a b k l. then-Equal (value_cmp (rowid a) (rowid b)) ∙ ap₂ value_cmp k l ∙ value_cmp-Int (number_of a) (number_of b))
      (λ a b k l p q below. ap is_eq (Less-from_lt (number_of a) (number_of b) below)) (uncovered old.now.trees tree) shows passes n.numbers n.rising r items h)

  -- with no test the first row of all
  pub walks_first : {text : List ℕ} {shown : List Term} {names : List (List ℕ)} → IsCommand schema text (Select (first_program tree [] shown number_order one) names) → (show : Row → Row)
      → ((r : Row) → eval_all shown ([] ∷ r ∷ []) ≡ show r) → (r : Result X E) (items : X → List Row) → IfOk r (λ x. Shown text [] old new (items x)) → IfOk r (λ x. items x ≡ next_rows show None (old.now.trees tree))
  walks_first command show shows =
      walks command [] None show shows (all_weaker (λ r. rowid r ≡ Int (number_of r)) (λ r. list_all (holds ([] ∷ r ∷ [])) [] ≡ is_behind None r) (λ r k. refl) (old.now.trees tree) n.numbers)

  -- the first one behind a number
  pub walks_behind : {text : List ℕ} {shown : List Term} {names : List (List ℕ)} → IsCommand schema text (Select (first_program tree by_behind shown number_order one) names) → (last : ℤ) (show : Row → Row)
      → ((r : Row) → eval_all shown ((Int last ∷ []) ∷ r ∷ []) ≡ show r) → (r : Result X E) (items : X → List Row) → IfOk r (λ x. Shown text (Int last ∷ []) old new (items x))
      → IfOk r (λ x. items x ≡ next_rows show (Some last) (old.now.trees tree))
  walks_behind command last show shows =
      walks command (Int last ∷ []) (Some last) show shows
      (all_weaker (λ r. rowid r ≡ Int (number_of r)) (λ r. list_all (holds ((Int last ∷ []) ∷ r ∷ [])) by_behind ≡ is_behind (Some last) r)
      (λ r k. last_term (int_by Gt (column r 0) (number_of r) last k)) (old.now.trees tree) n.numbers)
