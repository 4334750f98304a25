-- What a query that counts rows answers.
use Rattle.tables.proofs.Common.{AllByRecursion, Bool, Env, Err, IfOk, Int, IsAnswer, IsPermutation, List, Null, Ok, Output, Program, Query, Result, Row, Select, Shown, Some, State, Term, [], ap, cond, col, end, eval, false, filter, flat_map, holds, inner, inside, length, length-map, length_permutation, list_all, lit, map, negsuc, one_permutation, output, overlay, pos, reads_as, refl, subst, sym, ℕ, ◌++◌, ◌∙◌, ◌∷◌, ◌≡◌}
use Rattle.sqlite.specs.Effect.{Answers}
use Rattle.sqlite_sql.specs.Group.{Aggregate, Grouping, IsSummary, Summarizes, value_over}
use Rattle.sqlite_sql.specs.declared.aggregate.AggregateOp.TheVariants.{CountRows}
use Rattle.sqlite_value.specs.declared.keys.Collation.TheVariants.{Binary}
use Rattle.std.specs.List.{AllZip}
use Rattle.std.specs.Prelude.{min}
use Rattle.tables.proofs.Queries.{passed}
use Rattle.tables.proofs.Writes.{IsCommand}
use Rattle.tables.specs.Listings.{shown_count}
use Rattle.tables.specs.Schema as tables

abbrev one_count : Aggregate
one_count = record { op = CountRows; distinct = false; collation = Binary; argument = lit Null }

abbrev all_rows : Grouping
all_rows = record { keys = []; collations = []; aggregates = one_count ∷ []; having = [] }

abbrev pub count_on : ℕ → List Term → Query
count_on tree tests =
    record {
      from = inner tree end;
      filter = tests;
      group = Some all_rows;
      project = col 1 0 ∷ [];
      distinct = false;
      collations = [];
      order = [];
      limit = lit (Int (negsuc 0));
      offset = lit (Int (pos 0));
    }

abbrev pub count_program : ℕ → List Term → Program
count_program tree tests = record { lets = []; body = count_on tree tests }

-- ---- the one row that all are summed up in

value_is : (order : List Env) → value_over order one_count ≡ Some (Int (pos (min (length order) 9223372036854775807)))
value_is order = ap (λ n. Some (Int (pos (min n 9223372036854775807)))) (length-map order (eval (lit Null)))

summed : (order : List Env) (row : Row) → IsSummary all_rows order row → row ≡ shown_count (length order)
summed order row (values, each, is) = go values each is
  where
    go : (values : Row) → AllZip (λ a v. value_over order a ≡ Some v) (one_count ∷ []) values → row ≡ [] ++ values → row ≡ shown_count (length order)
    go [] each is = absurd each
    go (v ∷ []) each is = is ∙ ap (λ x. x ∷ []) (inside v (Int (pos (min (length order) 9223372036854775807))) (sym each.0 ∙ value_is order))
    go (v ∷ w ∷ values) each is = absurd each.1

one_row : (order : List Env) (rows : List Row) → AllZip (IsSummary all_rows) (order ∷ []) rows → rows ≡ shown_count (length order) ∷ []
one_row order [] h = absurd h
one_row order (r ∷ []) h = ap (λ x. x ∷ []) (summed order r h.0)
one_row order (r ∷ s ∷ rows) h = absurd h.1

-- nothing is left out by no test
all_stay : (envs : List Env) → filter (λ env. list_all (holds env) []) envs ≡ envs
all_stay [] = refl
all_stay (e ∷ envs) = ap (λ l. e ∷ l) (all_stay envs)

one_summary : (params : Row) (all staged : List Env) → Summarizes all_rows params all staged → staged ≡ (params ∷ shown_count (length all) ∷ []) ∷ []
one_summary params all staged h =
    let order = h.grouping.0 in
    let rows = one_row order h.rows (subst (λ g. AllZip (IsSummary all_rows) g h.rows) h.grouping.2 h.summaries) in
    let count : length order ≡ length all = length_permutation all order h.grouping.1 in
    h.having ∙ all_stay (map (λ r. params ∷ r ∷ []) h.rows) ∙ ap (map (λ r. params ∷ r ∷ [])) (rows ∙ ap (λ n. shown_count n ∷ []) count)

-- ---- the answer

module _ (old new : State) (has : old.now.schema ≡ tables.schema) {text : List ℕ} {tree : ℕ} {tests : List Term} {names : List (List ℕ)}
    (command : IsCommand tables.schema text (Select (count_program tree tests) names)) (params : Row) (p : Row → Bool) where
  pub counts : {X E : Type 0} (bare : overlay old.now.trees [] tree ≡ old.now.trees tree) → AllByRecursion (λ r. list_all (holds (params ∷ r ∷ [])) tests ≡ p r) (old.now.trees tree)
      → (r : Result X E) (items : X → List Row) → IfOk r (λ x. Shown text params old new (items x)) → IfOk r (λ x. items x ≡ shown_count (length (filter p (old.now.trees tree))) ∷ [])
  counts bare passes (Err e) items h = tt
  counts bare passes (Ok x) items h =
      let q : Query = count_on tree tests in
      let rows : List Row = old.now.trees tree in
      let found : List Row = filter p rows in
      let answers : Answers old.now (count_program tree tests) params (items x) =
      reads_as text params old new tables.schema has (Select (count_program tree tests) names) command.is command.plain command.unlisted (items x) h in
      let a : IsAnswer q (overlay old.now.trees []) params (items x) = answers.answer Null in
      let matched : flat_map (λ r. cond (list_all (holds (params ∷ r ∷ [])) tests) ((params ∷ r ∷ []) ∷ []) []) (overlay old.now.trees [] tree) ≡ map (λ r. params ∷ r ∷ []) found =
      ap (flat_map (λ r. cond (list_all (holds (params ∷ r ∷ [])) tests) ((params ∷ r ∷ []) ∷ []) [])) bare ∙ passed tests params p rows passes in
      let grouped : Summarizes all_rows params (map (λ r. params ∷ r ∷ []) found) a.staged = subst (λ l. Summarizes all_rows params l a.staged) matched a.grouped in
      let n = length found in
      let staged : a.staged ≡ (params ∷ shown_count n ∷ []) ∷ [] =
      one_summary params (map (λ r. params ∷ r ∷ []) found) a.staged grouped ∙ ap (λ k. (params ∷ shown_count k ∷ []) ∷ []) (length-map found (λ r. params ∷ r ∷ [])) in
      let kept : a.kept ≡ output q (params ∷ shown_count n ∷ []) ∷ [] = a.distinct ∙ ap (map (output q)) staged in
      let ordered : a.ordered ≡ output q (params ∷ shown_count n ∷ []) ∷ [] = one_permutation (output q (params ∷ shown_count n ∷ [])) a.ordered (subst (λ l. IsPermutation l a.ordered) kept a.same) in
      a.shown ∙ ap (map (λ (o : Output). o.1)) ordered
