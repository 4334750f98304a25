use Rattle.sqlstore.proofs.Lemmas.{List, Some, answered_unordered, ap, filter, history_intact, history_made, history_set, is_row_of_document, map, revs_tree, shown_revision, sym, trees_of, ℕ, ◌∙◌}
use Rattle.sqlstore.proofs.sql_store.SqlStore.load_history.Goals as goal

pub returns-clause-answer : goal.returns-clause-answer
returns-clause-answer g c =
    let trees = trees_of g.S.Store c.args.self.now in
    let own = λ (k : List ℕ). is_row_of_document c.args.number.now k in
    answered_unordered g.S.Store c.args.self.now c.revision_rows.new.self (λ v. v) _ _ _ (λ k. map shown_revision (filter (own k) (trees revs_tree))) _ _ c.in_ok-rows.rows.items c.read_history.result c.read_history.ensures c.revision_rows.ensures.stands
    c.in_ok-rows.ensures.found (c.as_bytes.ensures.value ∙ c.as_str.ensures.text) (history_set _ _) (λ l same. (history_intact trees (own c.args.id.now) _ l same, ap Some (sym (history_made trees c.args.number.now c.args.id.now _ l same))))
