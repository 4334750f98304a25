use Rattle.sqlstore.proofs.Common.{subst}
use Rattle.sqlstore.proofs.Lemmas.{Trees, ap, stands_same, sym, trees_of, was_honest, ◌∙◌, ◌≡◌}
use Rattle.std.proofs.Common.{ap₂, ◌-◌}
use Rattle.ranks.specs.Counts.{AreRanksOf, below}
use Rattle.sqlstore.proofs.Ranking.{counted_below}
use Rattle.sqlstore.specs.inner.Listing.{live_ids}
use Rattle.sqlstore.proofs.sql_store.SqlStore.count_within.Goals as goal

pub returns-clause-count : goal.returns-clause-count
returns-clause-count g c honest ranks =
    let s = c.args.self.now in
    let mid = c.rank_of.new.self in
    let n = c.args.number.now in
    let trees = trees_of g.S.Store s in
    let same : trees_of g.S.Store mid ≡ trees = stands_same g.S.Store s mid c.rank_of.ensures.stands in
    let high = c.in_ok-to.ensures.rank (was_honest g.S.Store mid c.rank_of-2.new.self c.rank_of-2.ensures.stands honest) ranks in
    let low = c.in_ok-from.ensures.rank honest (subst (λ (t : Trees). AreRanksOf c.args.ranks.now (live_ids t n)) (sym same) ranks) ∙ ap (λ (t : Trees). below c.args.low.now (live_ids t n)) same in
    c.saturating_sub-count.ensures ∙ ap₂ (λ a b. a - b) high low ∙ sym (counted_below trees n c.args.low.now c.args.high.now)
