-- What a SELECT on one table answers.
use Rattle.tables.proofs.Common.{AllByRecursion, Bool, Database, Env, Int, IsAnswer, IsPermutation, IsPermutation-map, Key, List, None, Output, Program, Query, Row, Term, [], ap, cond, end, eval_all, false, filter, flat_map, holds, inner, list_all, lit, map, map-map, map_same, negsuc, output, overlay, pos, refl, subst, sym, true, ℕ, ◌++◌, ◌∙◌, ◌∷◌, ◌≡◌}
use Rattle.sqlite.specs.Effect.{Answers}

-- no limit
abbrev pub unlimited : Term
unlimited = lit (Int (negsuc 0))

-- the rows of one table that pass all tests, in some order, a page of them
abbrev pub page_on : ℕ → List Term → List Term → List (Term × Key) → Term → Term → Query
page_on tree tests shown order limit offset =
    record {
      from = inner tree end;
      filter = tests;
      group = None;
      project = shown;
      distinct = false;
      collations = [];
      order = order;
      limit = limit;
      offset = offset;
    }

abbrev pub page_program : ℕ → List Term → List Term → List (Term × Key) → Term → Term → Program
page_program tree tests shown order limit offset = record { lets = []; body = page_on tree tests shown order limit offset }

-- the first of them
abbrev pub first_on : ℕ → List Term → List Term → List (Term × Key) → Term → Query
first_on tree tests shown order limit = page_on tree tests shown order limit (lit (Int (pos 0)))

-- all of them
abbrev pub query_on : ℕ → List Term → List Term → List (Term × Key) → Query
query_on tree tests shown order = first_on tree tests shown order unlimited

abbrev pub first_program : ℕ → List Term → List Term → List (Term × Key) → Term → Program
first_program tree tests shown order limit = page_program tree tests shown order limit (lit (Int (pos 0)))

abbrev pub program_on : ℕ → List Term → List Term → List (Term × Key) → Program
program_on tree tests shown order = first_program tree tests shown order unlimited

module _ (tests : List Term) (params : Row) (p : Row → Bool) where
  pub passed : (rows : List Row) → AllByRecursion (λ r. list_all (holds (params ∷ r ∷ [])) tests ≡ p r) rows
      → flat_map (λ r. cond (list_all (holds (params ∷ r ∷ [])) tests) ((params ∷ r ∷ []) ∷ []) []) rows ≡ map (λ r. params ∷ r ∷ []) (filter p rows)
  passed [] all = refl
  passed (r ∷ rows) all = ap (λ b. cond b ((params ∷ r ∷ []) ∷ []) [] ++ flat_map (λ s. cond (list_all (holds (params ∷ s ∷ [])) tests) ((params ∷ s ∷ []) ∷ []) []) rows) all.0 ∙ go (p r) (passed rows all.1)
    where
      go : (b : Bool) {found : List Env} → found ≡ map (λ s. params ∷ s ∷ []) (filter p rows) → cond b ((params ∷ r ∷ []) ∷ []) [] ++ found ≡ map (λ s. params ∷ s ∷ []) (cond b (r ∷ filter p rows) (filter p rows))
      go true more = ap (λ l. (params ∷ r ∷ []) ∷ l) more
      go false more = more

  -- the answer is what is shown of the rows that pass
  pub selects : (tree : ℕ) (shown : List Term) (order : List (Term × Key)) (show : Row → Row) (db : Database) → overlay db.trees [] tree ≡ db.trees tree
      → ((r : Row) → eval_all shown (params ∷ r ∷ []) ≡ show r) → AllByRecursion (λ r. list_all (holds (params ∷ r ∷ [])) tests ≡ p r) (db.trees tree)
      → (rows : List Row) → Answers db (program_on tree tests shown order) params rows → IsPermutation (map show (filter p (db.trees tree))) rows
  selects tree shown order show db bare shows all rows h =
      let q = query_on tree tests shown order in
      let a : IsAnswer q (overlay db.trees []) params rows = h.answer (Rattle.sqlite_value.specs.declared.value.Value.TheVariants.Null) in
      let found : List Row = db.trees tree in
      let staged : a.staged ≡ map (λ r. params ∷ r ∷ []) (filter p found) =
      a.grouped ∙ ap (flat_map (λ r. cond (list_all (holds (params ∷ r ∷ [])) tests) ((params ∷ r ∷ []) ∷ []) [])) bare ∙ passed found all in
      let moved : IsPermutation (map (λ (o : Output). o.1) a.kept) (map (λ (o : Output). o.1) a.ordered) = IsPermutation-map (λ (o : Output). o.1) a.kept a.ordered a.same in
      let kept : map (λ (o : Output). o.1) a.kept ≡ map show (filter p found) =
      ap (map (λ (o : Output). o.1)) (a.distinct ∙ ap (map (output q)) staged)
      ∙ map-map (λ (o : Output). o.1) (output q) _ ∙ map-map (λ e. (output q e).1) (λ r. params ∷ r ∷ []) (filter p found) ∙ map_same _ show shows (filter p found) in
      subst (λ l. IsPermutation l rows) kept (subst (IsPermutation (map (λ (o : Output). o.1) a.kept)) (sym a.shown) moved)
