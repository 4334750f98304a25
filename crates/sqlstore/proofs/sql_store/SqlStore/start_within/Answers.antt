use Rattle.sqlstore.proofs.Lemmas.{arith, laid, rules, subst, sym, trees_of, true, was_honest, ∥∥₁_elim, ◌+◌, ◌≡◌, ◌≤◌}
use Rattle.std.proofs.Common.{◌-◌}
use Rattle.ranks.specs.Counts.{below, is_below}
use Rattle.sqlstore.proofs.Common.{rows_set}
use Rattle.sqlstore.proofs.Ranking.{starts_later}
use Rattle.sqlstore.specs.inner.ById.{IsSameFrom}
use Rattle.sqlstore.specs.inner.Listing.{live_ids}
use Rattle.tables.specs.Schema.{docs_tree}
use Rattle.sqlstore.proofs.sql_store.SqlStore.start_within.Goals as goal

pub returns-clause-start : goal.returns-clause-start
returns-clause-start g c honest ranks =
    let s = c.args.self.now in
    let end = c.rank_of.new.self in
    let n = c.args.number.now in
    let low = c.args.low.now in
    let trees = trees_of g.S.Store s in
    let ids = live_ids trees n in
    let start = c.last_before-start.result in
    let from : c.in_ok-rank_of.field-0 ≡ below low ids = c.in_ok-rank_of.ensures.rank honest ranks in
    let target : c.in_ok-target.target ≡ c.in_ok-rank_of.field-0 + c.args.skip = omega (arith, c.in_ok-target.ensures) in
    let before : start.before ≡ below start.key.now ids = c.last_before-start.ensures.before ids ranks in
    let first : is_below low start.key.now ≡ true = search rules in
    let within : below start.key.now ids ≤ below low ids + c.args.skip = omega (arith, before, from, target, c.last_before-start.ensures.reaches) in
    let rest : c.in_ok-target.target - start.before ≡ below low ids + c.args.skip - below start.key.now ids = omega (arith, before, from, target) in
    λ high most.
    ∥∥₁_elim (laid g.S.Store s (was_honest g.S.Store s end c.rank_of.ensures.stands honest)) (rows_set _ _)
    (λ l. subst (λ b. IsSameFrom n (trees docs_tree) low c.args.skip b (c.in_ok-target.target - start.before)) (sym c.in_ok-bound.ensures) (starts_later trees n l low start.key.now c.args.skip _ first within rest) high most)
