-- What an UPDATE of one row makes of its table.
use Rattle.tables.proofs.Common.{AllByRecursion, AreNumbered, Bool, Changes, Equal, Err, Given, Greater, Int, IsPermutation-refl, Less, Less-from_lt, List, Ok, OnOk, Ran, Result, Row, Schema, State, Table, Term, Trees, Update, [], all-filter, all_kept, all_weaker, ap, arith, cast_row, cond, drop, edit_of, edited, eval_all, false, false_from_ne_true, filter, filter_all, fold, holds, ids_of, inl, inr, int_cmp, ints, list_all, map, match_ordering, not, not_from_false, number_of, overlay, put_row, refl, rowid, same, subst, sym, true, update_where, without_all, ℕ, ◌<ℤ◌, ◌∙◌, ◌∷◌, ◌≡◌}
use Rattle.sqlite_keyed.specs.Keyed.{IsKeyedBy, insert_by}
use Rattle.sqlite_keyed.proofs.WriteLemmas.{puts_update}
use Rattle.sqlite.specs.Effect.{Answers}
use Rattle.tables.proofs.Numbered.{put_same, removes_by}
use Rattle.tables.proofs.Queries.{program_on, selects}
use Rattle.tables.proofs.Single.{HasOneAtMost, few, one_order}
use Rattle.tables.proofs.Writes.{IsPlainTable, IsCommand, updates}

kept_all : (p : Row → Bool) (xs : List Row) → filter p xs ≡ [] → filter (λ x. not (p x)) xs ≡ xs
kept_all p xs none =
    filter_all (λ x. not (p x)) xs (all_weaker (λ x. p x ≡ true → ⊥) (λ x. not (p x) ≡ true) (λ x out. not_from_false (p x) (false_from_ne_true (p x) out)) xs (all_kept (λ x. ⊥) p xs (subst (AllByRecursion (λ x. ⊥)) (sym none) tt)))

first_of_all : (xs : List Row) (new : Row) → AllByRecursion (λ y. number_of new <ℤ number_of y) xs → insert_by number_of xs new ≡ new ∷ xs
first_of_all [] new above = refl
first_of_all (y ∷ ys) new above =
    let h = above.0 in
    let greater : int_cmp (number_of y) (number_of new) ≡ Greater = grind (arith, ints) in
    ap (λ o. match_ordering o (y ∷ insert_by number_of ys new) (new ∷ ys) (new ∷ y ∷ ys)) greater

same_head : {x r : Row} {xs : List Row} → ◌≡◌ {A = List Row} (x ∷ xs) (r ∷ []) → (x ≡ r) × (xs ≡ [])
same_head e = (cc, cc)

-- to put a row in the place of one is the same whether that was taken out before
insert_gone : (p : Row → Bool) (xs : List Row) (r new : Row) → IsKeyedBy number_of xs → filter p xs ≡ r ∷ [] → number_of new ≡ number_of r
    → insert_by number_of (filter (λ x. not (p x)) xs) new ≡ insert_by number_of xs new
insert_gone p [] r new up found same = absurd (cc)
insert_gone p (x ∷ xs) r new up found same = go (p x) refl found (insert_gone p xs r new up.1)
  where
    go : (b : Bool) → p x ≡ b → cond b (x ∷ filter p xs) (filter p xs) ≡ r ∷ []
        → (filter p xs ≡ r ∷ [] → number_of new ≡ number_of r → insert_by number_of (filter (λ y. not (p y)) xs) new ≡ insert_by number_of xs new)
        → insert_by number_of (cond (not b) (x ∷ filter (λ y. not (p y)) xs) (filter (λ y. not (p y)) xs)) new ≡ insert_by number_of (x ∷ xs) new
    go true is one more =
        let parts = same_head one in
        let key : number_of x ≡ number_of new = ap number_of parts.0 ∙ sym same in
        let above : AllByRecursion (λ y. number_of new <ℤ number_of y) xs = subst (λ k. AllByRecursion (λ y. k <ℤ number_of y) xs) key up.0 in
        let tied : int_cmp (number_of x) (number_of new) ≡ Equal = grind (arith, ints) in
        ap (λ l. insert_by number_of l new) (kept_all p xs parts.1) ∙ first_of_all xs new above
        ∙ sym (ap (λ o. match_ordering o (x ∷ insert_by number_of xs new) (new ∷ xs) (new ∷ x ∷ xs)) tied)
    go false is one more =
        let below : number_of x <ℤ number_of r = (subst (λ l. AllByRecursion (λ y. number_of x <ℤ number_of y) l) one (all-filter _ p xs up.0)).0 in
        let less : int_cmp (number_of x) (number_of new) ≡ Less = Less-from_lt (number_of x) (number_of new) (subst (λ k. number_of x <ℤ k) (sym same) below) in
        ap (λ o. match_ordering o (x ∷ insert_by number_of (filter (λ y. not (p y)) xs) new) (new ∷ filter (λ y. not (p y)) xs) (new ∷ x ∷ filter (λ y. not (p y)) xs)) less
        ∙ ap (λ l. x ∷ l) (more one same)
        ∙ sym (ap (λ o. match_ordering o (x ∷ insert_by number_of xs new) (new ∷ xs) (new ∷ x ∷ xs)) less)

-- what the edit of an UPDATE makes of the rows: the row that passes, if there is one, becomes another of its number
pub updated_rows : (db : Trees) (table : Table) (p : Row → Bool) (show f : Row → Row) (P : Row → Type 0) → ((r : Row) → rowid (show r) ≡ rowid r) → ((r : Row) → P r → cast_row table (drop 1 (show r)) ≡ f r)
    → ((r : Row) → number_of (f r) ≡ number_of r) → ((r : Row) → rowid (f r) ≡ Int (number_of (f r))) → AreNumbered (db table.tree) → AllByRecursion P (db table.tree) → HasOneAtMost p (db table.tree)
    → edited db (edit_of db table (ids_of (map show (filter p (db table.tree)))) Given 1 (map show (filter p (db table.tree)))) ≡ update_where p f (db table.tree)
updated_rows db table p show f P ids casts keeps owns numbered each one =
    let rows = db table.tree in
    let goal = λ (rs : List Row). edited db (edit_of db table (ids_of rs) Given 1 rs) in
    let cased : goal (map show (filter p rows)) ≡ fold (insert_by number_of) rows (map f (filter p rows)) = elim (few p rows one) [
      | inl none ↦ ap (λ l. goal (map show l)) none ∙ sym (ap (λ l. fold (insert_by number_of) rows (map f l)) none)
      | inr hit ↦
          let r = hit.0 in
          let fact : P r = (subst (AllByRecursion P) hit.1 (all-filter P p rows each)).0 in
          let left : without_all rows (ids_of (map show (filter p rows))) ≡ filter (λ y. not (p y)) rows = removes_by show ids p rows _ numbered (IsPermutation-refl _) in
          let left_one : without_all rows (ids_of (show r ∷ [])) ≡ filter (λ y. not (p y)) rows = subst (λ l. without_all rows (ids_of (map show l)) ≡ filter (λ y. not (p y)) rows) hit.1 left in
          ap (λ l. goal (map show l)) hit.1
          ∙ ap (λ l. put_row (cast_row table (drop 1 (show r))) l) left_one
          ∙ ap (λ n. put_row n (filter (λ y. not (p y)) rows)) (casts r fact)
          ∙ put_same (f r) (filter (λ y. not (p y)) rows) (all-filter _ (λ y. not (p y)) rows numbered.numbers) (owns r)
          ∙ insert_gone p rows r (f r) numbered.rising hit.1 (keeps r)
          ∙ sym (ap (λ l. fold (insert_by number_of) rows (map f l)) hit.1)
    ] in
    cased ∙ puts_update number_of p f keeps rows numbered.rising

module _ (schema : Schema) (at : ℕ) (table : Table) (it : IsPlainTable schema at table) (old new : State) (has : old.now.schema ≡ schema) (text : List ℕ) (tests shown : List Term)
    (command : IsCommand schema text (Update at (program_on table.tree tests shown []))) (params : Row) (p : Row → Bool) (show f : Row → Row) (P : Row → Type 0)
    (bare : overlay old.now.trees [] table.tree ≡ old.now.trees table.tree) (shows : (r : Row) → eval_all shown (params ∷ r ∷ []) ≡ show r) (ids : (r : Row) → rowid (show r) ≡ rowid r)
    (casts : (r : Row) → P r → cast_row table (drop 1 (show r)) ≡ f r) (keeps : (r : Row) → number_of (f r) ≡ number_of r) (owns : (r : Row) → rowid (f r) ≡ Int (number_of (f r)))
    (numbered : AreNumbered (old.now.trees table.tree)) (each : AllByRecursion P (old.now.trees table.tree)) (one : HasOneAtMost p (old.now.trees table.tree))
    (passes : AllByRecursion (λ r. list_all (holds (params ∷ r ∷ [])) tests ≡ p r) (old.now.trees table.tree)) where
  -- the rows that the query of an UPDATE finds
  pub found_rows : (rows : List Row) → Answers (record { schema = schema; trees = old.now.trees }) (program_on table.tree tests shown []) params rows → rows ≡ map show (filter p (old.now.trees table.tree))
  found_rows rows asked =
      one_order show p (old.now.trees table.tree) rows one (selects tests params p table.tree shown [] show (record { schema = schema; trees = old.now.trees }) bare shows passes rows asked)

  pub updates_where : {X E : Type 0} (r : Result X E) → OnOk r (Ran text params old new) → OnOk r (Changes table.tree (update_where p f (old.now.trees table.tree)) old.now new.now)
  updates_where (Err e) h = tt
  updates_where (Ok x) h =
      let done = updates schema at table it old new has text (program_on table.tree tests shown []) command params h in
      let goal = λ (rs : List Row). edited old.now.trees (edit_of old.now.trees table (ids_of rs) Given 1 rs) in
      subst (λ l. Changes table.tree l old.now new.now) (ap goal (found_rows done.0 done.1) ∙ updated_rows old.now.trees table p show f P ids casts keeps owns numbered each one) done.2
