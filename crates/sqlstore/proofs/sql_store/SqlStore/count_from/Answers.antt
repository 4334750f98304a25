use Rattle.sqlstore.proofs.Lemmas.{false, inside, rules, sym, trees_of, ◌∙◌, ◌≡◌}
use Rattle.ranks.specs.Counts.{is_below}
use Rattle.sqlstore.proofs.Ranking.{counted_between, none_between}
use Rattle.sqlstore.specs.inner.Listing.{live_ids}
use Rattle.sqlstore.proofs.sql_store.SqlStore.count_from.Goals as goal

pub returns-then-not-is_lt-clause-count : goal.returns-then-not-is_lt-clause-count
returns-then-not-is_lt-clause-count g c honest =
    let low = c.args.low.now in
    let high = c.args.high.now in
    let above : is_below low high ≡ false = search rules in
    sym (none_between low high (live_ids (trees_of g.S.Store c.args.self.now) c.args.number.now) above)

pub returns-in-Ok-clause-count : goal.returns-in-Ok-clause-count
returns-in-Ok-clause-count g c honest = sym (inside _ _ (c.in-Ok.ensures.answer honest)) ∙ counted_between (trees_of g.S.Store c.args.self.now) c.args.number.now c.args.low.now c.args.high.now
