use Rattle.std.specs.FinMap as finite
use Rattle.sqlstore.proofs.Lemmas.{Option, Some, ap, entry_set, history_in_rows, revs_tree, subst, trees_of, ∥∥₁_elim, ◌≡◌}
use Rattle.sqlstore.proofs.Common.{IfSome}
use Rattle.tree.specs.declared.entry.Entry.{Entry}
use Rattle.sqlstore.proofs.sql_store.SqlStore.give_revision.Goals as goal

pub returns-in-Some-clause-answer : goal.returns-in-Some-clause-answer
returns-in-Some-clause-answer g c honest =
    let s = c.args.self.now in
    let trees = trees_of g.S.Store s in
    let own = history_in_rows (trees revs_tree) c.args.number.now c.args.id.now in
    ∥∥₁_elim (s.standing.known_so honest.0 honest.1) (entry_set _ _) (λ known.
    ap Some (subst (λ (o : Option Entry). IfSome o (λ e. finite.get own c.args.rev.now ≡ Some e)) c.in-Some.is (c.known_entry.ensures trees known)))
