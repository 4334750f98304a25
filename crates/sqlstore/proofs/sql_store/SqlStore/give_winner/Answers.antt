use Rattle.sqlstore.proofs.Lemmas.{Option, Some, ap, history_in_rows, revs_tree, subst, trees_of, winner_set, ∥∥₁_elim, ◌≡◌}
use Rattle.sqlstore.proofs.Common.{IfSome}
use Rattle.tree.specs.Outline.{marked_winner}
use Rattle.tree.specs.declared.marked_rev.MarkedRev.{MarkedRev}
use Rattle.sqlstore.proofs.sql_store.SqlStore.give_winner.Goals as goal

pub returns-in-Some-clause-answer : goal.returns-in-Some-clause-answer
returns-in-Some-clause-answer g c honest =
    let s = c.args.self.now in
    let trees = trees_of g.S.Store s in
    let own = history_in_rows (trees revs_tree) c.args.number.now c.args.id.now in
    ∥∥₁_elim (s.standing.known_so honest.0 honest.1) (winner_set _ _) (λ known.
    ap Some (subst (λ (o : Option MarkedRev). IfSome o (λ w. marked_winner own ≡ Some w)) c.in-Some.is (c.known_winner.ensures trees known)))
