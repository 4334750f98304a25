use Rattle.sqlstore.proofs.Lemmas.{arith, laid, rules, subst, sym, trees_of, true, was_honest, ∥∥₁_elim, ◌+◌, ◌≡◌, ◌≤◌}
use Rattle.std.proofs.Common.{◌-◌}
use Rattle.ranks.specs.Counts.{below, is_below}
use Rattle.sqlstore.proofs.Common.{rows_set}
use Rattle.sqlstore.proofs.Ranking.{ends_before}
use Rattle.sqlstore.specs.inner.ById.{IsSameDownFrom}
use Rattle.sqlstore.specs.inner.Listing.{live_ids}
use Rattle.tables.specs.Schema.{docs_tree}
use Rattle.sqlstore.proofs.sql_store.SqlStore.end_within.Goals as goal

pub returns-clause-start : goal.returns-clause-start
returns-clause-start g c honest ranks =
    let s = c.args.self.now in
    let end = c.rank_of.new.self in
    let n = c.args.number.now in
    let high = c.args.high.now in
    let trees = trees_of g.S.Store s in
    let ids = live_ids trees n in
    let stop = c.in_ok-end.end in
    let to : c.in_ok-rank.rank ≡ below high ids = c.in_ok-rank.ensures.rank honest ranks in
    let least : c.saturating_sub.result ≡ c.in_ok-rank.rank - c.args.skip = c.saturating_sub.ensures in
    let before : stop.before ≡ below stop.key.now ids = c.in_ok-end.ensures.before ids ranks in
    let first : is_below stop.key.now high ≡ true = search rules in
    let sum : c.in_ok-checked_add.field-0 ≡ stop.before + c.args.skip = omega (arith, c.in_ok-checked_add.ensures) in
    let rest : c.in_ok-rest.rest ≡ below stop.key.now ids + c.args.skip - below high ids = omega (arith, before, to, sum, c.in_ok-rest.ensures) in
    let within : below high ids ≤ below stop.key.now ids + c.args.skip = omega (arith, before, to, sum, c.in_ok-rest.ensures, c.in_ok-end.ensures.reaches, least) in
    λ low most.
    ∥∥₁_elim (laid g.S.Store s (was_honest g.S.Store s end c.rank_of.ensures.stands honest)) (rows_set _ _)
    (λ l. subst (λ b. IsSameDownFrom n (trees docs_tree) high c.args.skip b c.in_ok-rest.rest) (sym c.in_ok-bound.ensures) (ends_before trees n l high stop.key.now c.args.skip _ first within rest) low most)
