use Rattle.sqlstore.proofs.Lemmas.{false, inside, laid, sym, trees_of, was_honest, ∥∥₁_elim, ◌∙◌, ◌≡◌}
use Rattle.sqlstore.proofs.Ranking.{ids_counted, ranks_prop}
use Rattle.sqlstore.specs.inner.Listing.{all_count, live_ids}
use Rattle.sqlstore.proofs.sql_store.SqlStore.find_ranks.Goals as goal

pub returns-in-None-clause-ranks : goal.returns-in-None-clause-ranks
returns-in-None-clause-ranks g c honest =
    let s = c.args.self.now in
    let mid = c.count_all.new.self in
    let n = c.args.number.now in
    let trees = trees_of g.S.Store s in
    let ids = live_ids trees n in
    let before = was_honest g.S.Store mid c.take_live_ranks.new.self c.take_live_ranks.ensures.stands honest in
    let count : all_count trees n false ≡ c.in-Ok.count = inside _ _ (c.in-Ok.ensures.answer before) in
    ∥∥₁_elim (laid g.S.Store s (was_honest g.S.Store s mid c.count_all.ensures.stands before)) (ranks_prop c.new.result ids) (λ l. c.new.ensures.ranks ids (sym (ids_counted trees n l) ∙ count))
