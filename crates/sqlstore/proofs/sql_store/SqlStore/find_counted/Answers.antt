use Rattle.sqlstore.proofs.Lemmas.{IsKnown, Trees, laid, stands_same, subst, trees_of, was_honest, ∥∥₁_elim, ∥∥₁_map, ∥∥₁_prop}
use Rattle.sqlstore.proofs.MarkRows.{counts_at, ranks_at}
use Rattle.sqlstore.specs.inner.Marks.{AreMarks, documents_at}
use Rattle.sqlstore.proofs.sql_store.SqlStore.find_counted.Goals as goal

pub returns-clause-counted : goal.returns-clause-counted
returns-clause-counted g c honest =
    let s = c.args.self.now in
    let mid = c.take_live_ranks-ranks.new.self in
    let end = c.find_marks.new.self in
    let n = c.args.number.now in
    let trees = trees_of g.S.Store s in
    let parted = c.take_live_ranks-ranks.ensures in
    let same = stands_same g.S.Store s mid parted.stands in
    let middle = was_honest g.S.Store mid end c.find_marks.ensures.stands honest in
    let marks = subst (λ (t : Trees). AreMarks c.in-Ok.marks (documents_at t n)) same (c.in-Ok.ensures.marks honest) in
    let first = was_honest g.S.Store s mid parted.stands middle in
    ∥∥₁_elim (laid g.S.Store s first) ∥∥₁_prop (λ l.
    ∥∥₁_map (subst (λ (t : Trees). ∥ IsKnown t mid.known ∥₁) same (mid.standing.known_so middle.0 middle.1)) (λ known. (
      counts_at trees n l c.counts_or_none.result (c.counts_or_none.ensures trees n (c.find_counts-counts.ensures trees known)),
      marks,
      ranks_at trees n l c.take_live_ranks-ranks.result (parted.ranks first),
    )))
