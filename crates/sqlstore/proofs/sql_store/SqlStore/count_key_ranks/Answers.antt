use Rattle.index.specs.Rows.{count_of}
use Rattle.ranks.specs.Counts.{AreRanksOf, below}
use Rattle.sqlstore.proofs.Common.{[], ap₂}
use Rattle.sqlstore.proofs.KeyEntries.{indexed}
use Rattle.sqlstore.proofs.KeyRanking.{all_below, keys_counted}
use Rattle.sqlstore.proofs.Lemmas.{ap, inside, sym, trees_of, was_honest, ∥∥₁_elim, ◌∙◌, ◌∷◌, ◌≡◌}
use Rattle.sqlstore.proofs.Ranking.{ranks_prop}
use Rattle.sqlstore.specs.inner.Keys.{entry_keys}
use Rattle.tables.specs.Schema.{entries_tree}
use Rattle.sqlstore.proofs.sql_store.SqlStore.count_key_ranks.Goals as goal

pub returns-clause-ranks : goal.returns-clause-ranks
returns-clause-ranks g c honest =
    let s = c.args.self.now in
    let n = c.args.declaration.now in
    let trees = trees_of g.S.Store s in
    let keys = entry_keys trees n in
    let total = c.in-Ok-count_between.total in
    let count : count_of n [] (8 ∷ []) (trees entries_tree) ≡ total =
    sym (ap₂ (λ a b. count_of n a b (trees entries_tree)) (c.deref.ensures.value ∙ c.new-start.ensures.items) (c.deref-2.ensures.value ∙ c.in-Ok.ensures)) ∙ inside _ _ (c.in-Ok-count_between.ensures.answer honest) in
    let whole : AreRanksOf c.new-ranks.result keys =
    ∥∥₁_elim (indexed g.S.Store s (was_honest g.S.Store s c.count_between.new.self c.count_between.ensures.stands honest)) (ranks_prop c.new-ranks.result keys)
    (λ both. c.new-ranks.ensures.ranks keys (sym (keys_counted trees n both.1) ∙ count)) in
    c.split.ensures.ranks keys whole (sym count ∙ all_below trees n ∙ ap (λ k. below k keys) (sym (c.deref-3.ensures.value ∙ c.in-Ok.ensures)))
