use Rattle.sqlstore.proofs.Lemmas.{List, ap, dbs_tree, filter, found_in, found_set, is_named, option_map, slice_get, sym, trees_of, was_honest, ℕ, ∥∥₁_elim, ◌∙◌}
use Rattle.sqlstore.proofs.sql_store.SqlStore.know.Goals as goal

pub returns-in-Some-clause-answer : goal.returns-in-Some-clause-answer
returns-in-Some-clause-answer g c honest =
    let s = c.args.self.now in
    ∥∥₁_elim (c.in-Some.ensures.known (was_honest g.S.Store s c.take_known.new.self c.take_known.ensures.stands honest)) (found_set _ _)
    (λ known. ap (λ (n : List ℕ). option_map found_in (slice_get (filter (is_named n) (trees_of g.S.Store s dbs_tree)) 0)) (sym c.in-Some.ensures.named) ∙ known.row)
