use Rattle.sqlstore.proofs.Common.{subst}
use Rattle.sqlstore.proofs.Lemmas.{Trees, ap, stands_same, sym, trees_of, was_honest, ◌∙◌, ◌≡◌}
use Rattle.std.proofs.Common.{ap₂, ◌-◌}
use Rattle.ranks.specs.Counts.{AreRanksOf, below}
use Rattle.sqlstore.proofs.KeyRanking.{keys_below}
use Rattle.sqlstore.specs.inner.Keys.{entry_keys}
use Rattle.sqlstore.proofs.sql_store.SqlStore.count_keys_within.Goals as goal

pub returns-clause-count : goal.returns-clause-count
returns-clause-count g c honest ranks =
    let s = c.args.self.now in
    let mid = c.rank_of_key.new.self in
    let n = c.args.declaration.now in
    let trees = trees_of g.S.Store s in
    let same : trees_of g.S.Store mid ≡ trees = stands_same g.S.Store s mid c.rank_of_key.ensures.stands in
    let before = was_honest g.S.Store mid c.rank_of_key-2.new.self c.rank_of_key-2.ensures.stands honest in
    let low = c.in_ok-from.ensures.rank before ranks in
    let then = subst (λ (t : Trees). AreRanksOf c.rank_of_key.new.ranks (entry_keys t n)) (sym same) (c.rank_of_key.ensures.ranks before ranks) in
    let high = c.in_ok-to.ensures.rank honest then ∙ ap (λ (t : Trees). below c.args.high.now (entry_keys t n)) same in
    c.saturating_sub-count.ensures ∙ ap₂ (λ a b. a - b) high low ∙ sym (keys_below trees n c.args.low.now c.args.high.now)
