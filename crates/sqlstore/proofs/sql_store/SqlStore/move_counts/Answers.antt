use Rattle.ranks.specs.Counts.{AreRanksOf}
use Rattle.sqlstore.proofs.Common.{IfSome}
use Rattle.sqlstore.proofs.Lemmas.{IsKnown, known_so, laid, state, subst, sym, trees_of, was_honest, ∥∥₁_elim, ∥∥₁_map, ∥∥₁_prop}
use Rattle.sqlstore.proofs.MarkRows.{counts_from, ranks_from}
use Rattle.sqlstore.specs.inner.Marks.{AreChanges, AreCounts, AreMarks, documents_at, live_keys}
use Rattle.sqlstore.proofs.sql_store.SqlStore.move_counts.Goals as goal

pub invariant_of-self : goal.invariant_of-self
invariant_of-self g c =
    let s = c.args.self.now in
    let mid = c.find_changes.new.self in
    let n = c.args.number.now in
    let trees = trees_of g.S.Store s in
    let stands = c.find_changes.ensures.stands in
    let parts = c.split-ranks.ensures in
    record {
      standing = known_so g.S.Store s mid c.keep_ranks.new.known stands (λ honest.
          let was = was_honest g.S.Store s mid stands honest in
          ∥∥₁_elim (laid g.S.Store s was) ∥∥₁_prop (λ l. ∥∥₁_elim (c.requires was) ∥∥₁_prop (λ given.
          let now = documents_at trees n in
          let changes = c.in-Ok.ensures.changes honest given.0 (subst (λ m. AreMarks m given.0) (sym parts.marks) given.2) given.4 in
          let counts = counts_from trees n l c.after.result (c.after.ensures given.0 now (subst (λ l. AreChanges l given.0 now) (sym c.deref.ensures.value) changes) (subst (λ k. AreCounts k given.0) (sym parts.counts) given.1)) in
          let ranks = ranks_from trees n l c.move_ranks.result (c.move_ranks.ensures given.0 now (subst (λ l. AreChanges l given.0 now) (sym c.deref-in-Ok.ensures.value) changes) (subst (λ o. IfSome o (λ r. AreRanksOf r (live_keys given.0))) (sym parts.ranks) given.3)) in
          ∥∥₁_map (subst (λ h. ∥ IsKnown (state g.S.Store h).now.trees mid.known ∥₁) stands.last (mid.standing.known_so honest.0 honest.1))
          (λ known. c.keep_ranks.ensures trees (c.keep_counts.ensures trees known counts) ranks))));
    }
