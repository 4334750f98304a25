use Rattle.index.specs.Rows.{count_of}
use Rattle.sqlstore.proofs.Common.{ap₂}
use Rattle.sqlstore.proofs.KeyEntries.{answers_as}
use Rattle.sqlstore.proofs.Lemmas.{[], trees_of, ◌∙◌, ◌∷◌}
use Rattle.sqlstore.specs.Model.{fault_count, is_honest}
use Rattle.tables.specs.Schema.{entries_tree}
use Rattle.sqlstore.proofs.sql_store.SqlStore.count_entries.Goals as goal

pub returns-clause-answer : goal.returns-clause-answer
returns-clause-answer g c =
    let s = c.args.self.now in
    let end = c.count_keys.new.self in
    let n = c.args.declaration.now in
    answers_as (is_honest g.S.Store) (is_honest g.S.Store) (fault_count g.S.Store) s end (λ m. m) _ (count_of n [] (8 ∷ []) (trees_of g.S.Store s entries_tree)) c.count_keys.result (λ k. k)
    (λ k. ap₂ (λ a b. count_of n a b (trees_of g.S.Store s entries_tree)) (c.deref.ensures.value ∙ c.new-start.ensures.items) (c.deref-2.ensures.value ∙ c.in_ok-end.ensures))
    c.count_keys.ensures.answer
