use Rattle.sqlstore.proofs.Lemmas.{arith, bounded_there, laid, numbers_in, there, trees_of, was_honest, ∥∥₁_elim}
use Rattle.sqlstore.proofs.sql_store.SqlStore.find_bounded.Goals as goal

pub returns-then-found-clause-answer : goal.returns-then-found-clause-answer
returns-then-found-clause-answer g c honest =
    let s = c.args.self.now in
    let trees = trees_of g.S.Store s in
    let found = there numbers_in trees c.args.name.now _ (c.in_ok-found.ensures.answer honest) in
    ∥∥₁_elim (laid g.S.Store s (was_honest g.S.Store s c.find.new.self c.find.ensures.stands honest)) (λ p q. absurd p)
    (λ l. let small = bounded_there trees c.args.name.now _ l found in omega (arith, small, c.if-found.true))
