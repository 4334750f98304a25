use Rattle.sqlstore.proofs.Common.{Option, Vec, Global}
use Rattle.sqlstore.proofs.Lemmas.{AllByRecursion, Some, Trees, stands_same, subst, sym, trees_of, was_honest, ∥∥₁_elim, ∥∥₁_map, ∥∥₁_prop}
use Rattle.sqlstore.proofs.CountedRanks.{found_counted}
use Rattle.sqlstore.specs.inner.CountedKeys.{IsFound}
use Rattle.sqlstore.specs.inner.Keys.{AreKnownRanks}
use Rattle.sqlstore.specs.declared.index_ranks.IndexRanks.{IndexRanks}
use Rattle.sqlstore.proofs.sql_store.SqlStore.find_counted_keys.Goals as goal

pub returns-in-Ok-clause-counted : goal.returns-in-Ok-clause-counted
returns-in-Ok-clause-counted g c honest =
    let s = c.args.self.now in
    let mid = c.part_index_ranks.new.self in
    let end = c.find_all_keys.new.self in
    let n = c.args.number.now in
    let trees = trees_of g.S.Store s in
    let parted = c.part_index_ranks.ensures in
    let same = stands_same g.S.Store s mid parted.stands in
    let middle = was_honest g.S.Store mid end c.find_all_keys.ensures.stands honest in
    let first = was_honest g.S.Store s mid parted.stands middle in
    ∥∥₁_elim (s.standing.held first.0 first.1) ∥∥₁_prop (λ holds.
    ∥∥₁_map (parted.ranks middle) (λ ranks.
    let are = subst (λ (o : Option (Vec IndexRanks Global)). AreKnownRanks trees n o) c.in_ok-ranks.was ranks in
    found_counted trees n holds.store.laid holds.indexed c.in-Ok.counted.items
    (subst (λ (t : Trees). AllByRecursion (IsFound t n) c.in-Ok.counted.items) same (c.in-Ok.ensures.found honest (subst (λ (t : Trees). AreKnownRanks t n (Some c.in_ok-ranks.ranks)) (sym same) are)))))
