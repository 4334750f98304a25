use Rattle.ranks.specs.Counts.{is_below}
use Rattle.sqlstore.proofs.KeyRanking.{keys_between}
use Rattle.sqlstore.proofs.Lemmas.{false, inside, rules, sym, trees_of, ◌∙◌, ◌≡◌}
use Rattle.sqlstore.proofs.Ranking.{none_between}
use Rattle.sqlstore.specs.inner.Keys.{entry_keys}
use Rattle.sqlstore.proofs.sql_store.SqlStore.count_keys_from.Goals as goal

pub returns-then-not-is_lt-clause-count : goal.returns-then-not-is_lt-clause-count
returns-then-not-is_lt-clause-count g c honest =
    let low = c.args.low.now in
    let high = c.args.high.now in
    let above : is_below low high ≡ false = search rules in
    sym (none_between low high (entry_keys (trees_of g.S.Store c.args.self.now) c.args.declaration.now) above)

pub returns-in-Ok-clause-count : goal.returns-in-Ok-clause-count
returns-in-Ok-clause-count g c honest = sym (inside _ _ (c.in-Ok.ensures.answer honest)) ∙ keys_between (trees_of g.S.Store c.args.self.now) c.args.declaration.now c.args.low.now c.args.high.now
