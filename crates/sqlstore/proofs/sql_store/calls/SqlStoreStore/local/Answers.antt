use Rattle.sqlstore.proofs.Lemmas.{DatabaseNumbers, Held, List, answered, ap, filter, is_row_of_document, laid, local_intact, local_there, locals_tree, map, not_found, numbers_in, rules, shown_local, stands_then, state, there, trees_of, was_honest, ℕ, ∥∥₁_elim, ◌∙◌, ◌≡◌}
use Rattle.sqlstore.proofs.sql_store.calls.SqlStoreStore.local.Goals as goal

pub returns-in_err-found-clause-answer : goal.returns-in_err-found-clause-answer
returns-in_err-found-clause-answer g c = not_found {X = DatabaseNumbers} g.S.Store c.args.self.now c.find.new.self c.args.name.now numbers_in (λ d. (d.number, d.sequence)) _ _ _ _ c.in_err-found.ensures.answer (search rules)

pub returns-clause-answer : goal.returns-clause-answer
returns-clause-answer g c =
    let s = c.args.self.now in
    let mid = c.find.new.self in
    let end = c.local_rows.new.self in
    let trees = trees_of g.S.Store s in
    let whole = stands_then g.S.Store s mid end c.find.ensures.stands c.local_rows.ensures.stands in
    answered g.S.Store s end (λ v. v) _ _ _ c.first_local.result c.first_local.ensures
    (λ honest.
    let found = there numbers_in trees c.args.name.now _ (c.in_ok-found.ensures.answer (was_honest g.S.Store mid end c.local_rows.ensures.stands honest)) in
    let shown = λ (id : List ℕ) (h : Held g.row.S.Denot). map shown_local (filter (is_row_of_document c.in_ok-found.found.number id) ((state g.S.Store h).now.trees locals_tree)) in
    let rows : c.deref.result.now ≡ shown c.args.id.now s.last.value =
    c.deref.ensures.value ∙ c.in_ok-rows.ensures.found honest ∙ ap (λ id. shown id mid.last.value) (c.as_bytes.ensures.value ∙ c.as_str.ensures.text) ∙ ap (shown c.args.id.now) c.find.ensures.stands.last in (
      (λ none. ∥∥₁_elim (laid g.S.Store s (was_honest g.S.Store s end whole honest)) (λ p q. absurd p) (λ l. none (local_intact trees (is_row_of_document c.in_ok-found.found.number c.args.id.now) _ l rows))),
      local_there trees c.args.name.now c.args.id.now _ _ found rows,
    ))
