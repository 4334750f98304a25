use Rattle.sqlstore.proofs.Lemmas.{answered, laid, names_intact, names_set, names_there, trees_of, was_honest, ∥∥₁_elim, ◌∙◌}
use Rattle.sqlstore.proofs.sql_store.calls.SqlStoreStore.names.Goals as goal

pub returns-clause-answer : goal.returns-clause-answer
returns-clause-answer g c =
    let s = c.args.self.now in
    let end = c.name_rows.new.self in
    let trees = trees_of g.S.Store s in
    answered g.S.Store s end (λ names. names.items) _ _ _ c.read_names.result c.read_names.ensures
    (λ honest.
    let rows = c.deref.ensures.value ∙ c.in_ok-rows.ensures.found honest in
    let lay = laid g.S.Store s (was_honest g.S.Store s end c.name_rows.ensures.stands honest) in
    ((λ none. ∥∥₁_elim lay (λ p q. absurd p) (λ l. none (names_intact trees _ l rows))), ∥∥₁_elim lay (names_set _ _) (λ l. names_there trees _ l rows)))
