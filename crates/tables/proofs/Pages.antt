-- What a query with an order, a limit and an offset answers, where no two rows tie.
use Rattle.tables.proofs.Common.{AllByRecursion, Bool, Err, IfOk, Int, IsAnswer, IsAscending, IsPermutation, Key, List, Null, Ok, Ordering, Output, Query, Result, Row, Select, Shown, State, Term, [], all-filter, all_both, ap, as_count, ascending-filter, ascending-map, cond, drop, eval, eval_all, false, filter, first_rows, flat_map, holds, is_eq, limited, list_all, map, map-map, map_same, negsuc, output, output_cmp, overlay, pos, reads_as, refl, sort_by, sort_by-map, sorted_is-sort_by, subst, true, ℕ, ℤ, ◌∙◌, ◌∷◌, ◌≡◌}
use Rattle.sqlite.specs.Effect.{Answers}
use Rattle.sqlite_sql.proofs.QueryLemmas.{output_cmp_total}
use Rattle.std.specs.Prelude.{unwrap_or}
use Rattle.tables.proofs.Queries.{first_on, first_program, page_on, page_program, passed}
use Rattle.tables.proofs.RowMaps.{passing}
use Rattle.tables.proofs.Sorted.{both_in, sorted_alike}
use Rattle.tables.proofs.Writes.{IsCommand}
use Rattle.tables.specs.Listings.{rows_behind}
use Rattle.tables.specs.Schema as tables

-- what a limit and an offset leave of some rows
pub page_of : {A : Type 0} (most skip : ℤ) (xs : List A) → limited (as_count (Int most)) (drop (unwrap_or (as_count (Int skip)) 0) xs) ≡ first_rows most (rows_behind skip xs)
page_of (pos m) (pos n) xs = refl
page_of (pos m) (negsuc n) xs = refl
page_of (negsuc m) (pos n) xs = refl
page_of (negsuc m) (negsuc n) xs = refl

module _ (old new : State) (has : old.now.schema ≡ tables.schema) {text : List ℕ} {tree : ℕ} {tests shown : List Term} {order : List (Term × Key)} {most skip : Term} {names : List (List ℕ)}
    (command : IsCommand tables.schema text (Select (page_program tree tests shown order most skip) names)) (params : Row) (p : Row → Bool) (show : Row → Row)
    (P : Row → Type 0) (by : Row → Row → Ordering) (R : Row → Row → Type 0)
    (agree : (a b : Row) → P a → P b → output_cmp (page_on tree tests shown order most skip) (output (page_on tree tests shown order most skip) (params ∷ a ∷ [])) (output (page_on tree tests shown order most skip) (params ∷ b ∷ [])) ≡ by a b)
    (apart : (a b : Row) → P a → P b → p a ≡ true → p b ≡ true → R a b → is_eq (by a b) ≡ false) where
  pub lists_page : {X E : Type 0} (bare : overlay old.now.trees [] tree ≡ old.now.trees tree) → ((r : Row) → eval_all shown (params ∷ r ∷ []) ≡ show r)
      → AllByRecursion (λ r. list_all (holds (params ∷ r ∷ [])) tests ≡ p r) (old.now.trees tree) → AllByRecursion P (old.now.trees tree) → IsAscending R (old.now.trees tree)
      → (r : Result X E) (items : X → List Row) → IfOk r (λ x. Shown text params old new (items x))
      → IfOk r (λ x. items x ≡ limited (as_count (eval most (params ∷ []))) (drop (unwrap_or (as_count (eval skip (params ∷ []))) 0) (map show (sort_by by (filter p (old.now.trees tree))))))
  lists_page bare shows passes all up (Err e) items h = tt
  lists_page bare shows passes all up (Ok x) items h =
      let q : Query = page_on tree tests shown order most skip in
      let out : Row → Output = λ r. output (page_on tree tests shown order most skip) (params ∷ r ∷ []) in
      let rows : List Row = old.now.trees tree in
      let found : List Row = filter p rows in
      let answers : Answers old.now (page_program tree tests shown order most skip) params (items x) =
      reads_as text params old new tables.schema has (Select (page_program tree tests shown order most skip) names) command.is command.plain command.unlisted (items x) h in
      let a : IsAnswer q (overlay old.now.trees []) params (items x) = answers.answer Null in
      let staged : a.staged ≡ map (λ r. params ∷ r ∷ []) found =
      a.grouped ∙ ap (flat_map (λ r. cond (list_all (holds (params ∷ r ∷ [])) tests) ((params ∷ r ∷ []) ∷ []) [])) bare ∙ passed tests params p rows passes in
      let kept : a.kept ≡ map out found = a.distinct ∙ ap (map (output q)) staged ∙ map-map (output q) (λ r. params ∷ r ∷ []) found in
      let own : AllByRecursion (λ r. P r × (p r ≡ true)) found = all_both P (λ r. p r ≡ true) (λ r. P r × (p r ≡ true)) (λ r k passes. (k, passes)) found (all-filter P p rows all) (passing p rows) in
      let untied : IsAscending (λ a b. is_eq (output_cmp q (out a) (out b)) ≡ false) found =
      both_in (λ r. P r × (p r ≡ true)) R (λ a b. is_eq (output_cmp q (out a) (out b)) ≡ false)
      (λ a b k l r. ap is_eq (agree a b k.0 l.0) ∙ apart a b k.0 l.0 k.1 l.1 r) found own (ascending-filter R p rows up) in
      let ordered : a.ordered ≡ sort_by (output_cmp q) (map out found) =
      sorted_is-sort_by (output_cmp q) (output_cmp_total q) (map out found) a.ordered (ascending-map (λ x y. is_eq (output_cmp q x y) ≡ false) out found untied)
      (subst (λ l. IsPermutation l a.ordered) kept a.same) a.sorted in
      let mine : sort_by (λ a b. output_cmp q (out a) (out b)) found ≡ sort_by by found = sorted_alike P (λ a b. output_cmp q (out a) (out b)) by agree found (all-filter P p rows all) in
      a.shown
      ∙ ap (λ l. limited (as_count (eval most (params ∷ []))) (drop (unwrap_or (as_count (eval skip (params ∷ []))) 0) l))
      (ap (map (λ (o : Output). o.1)) (ordered ∙ sort_by-map (output_cmp q) out found ∙ ap (map out) mine)
      ∙ map-map (λ (o : Output). o.1) out (sort_by by found) ∙ map_same _ show shows (sort_by by found))

-- the first of them: a page that skips nothing
module _ (old new : State) (has : old.now.schema ≡ tables.schema) {text : List ℕ} {tree : ℕ} {tests shown : List Term} {order : List (Term × Key)} {most : Term} {names : List (List ℕ)}
    (command : IsCommand tables.schema text (Select (first_program tree tests shown order most) names)) (params : Row) (p : Row → Bool) (show : Row → Row)
    (P : Row → Type 0) (by : Row → Row → Ordering) (R : Row → Row → Type 0)
    (agree : (a b : Row) → P a → P b → output_cmp (first_on tree tests shown order most) (output (first_on tree tests shown order most) (params ∷ a ∷ [])) (output (first_on tree tests shown order most) (params ∷ b ∷ [])) ≡ by a b)
    (apart : (a b : Row) → P a → P b → p a ≡ true → p b ≡ true → R a b → is_eq (by a b) ≡ false) where
  pub lists : {X E : Type 0} (bare : overlay old.now.trees [] tree ≡ old.now.trees tree) → ((r : Row) → eval_all shown (params ∷ r ∷ []) ≡ show r)
      → AllByRecursion (λ r. list_all (holds (params ∷ r ∷ [])) tests ≡ p r) (old.now.trees tree) → AllByRecursion P (old.now.trees tree) → IsAscending R (old.now.trees tree)
      → (r : Result X E) (items : X → List Row) → IfOk r (λ x. Shown text params old new (items x)) → IfOk r (λ x. items x ≡ limited (as_count (eval most (params ∷ []))) (map show (sort_by by (filter p (old.now.trees tree)))))
  lists = lists_page old new has command params p show P by R agree apart
