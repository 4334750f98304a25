use Rattle.sqlstore.proofs.Lemmas.{KnownDatabase, Some, answered, found_in, known_so, known_values, laid, not_found, reads, rules, security_intact, security_there, there, trees_of, was_honest, ∥∥₁_elim}
use Rattle.sqlstore.proofs.sql_store.calls.SqlStoreStore.security.Goals as goal

pub invariant_of-self : goal.invariant_of-self
invariant_of-self g c = record { standing = known_so g.S.Store c.args.self.now c.know.new.self (Some c.in_ok-known.known) c.know.ensures.stands c.in_ok-known.ensures.known }

pub returns-in_err-known-clause-answer : goal.returns-in_err-known-clause-answer
returns-in_err-known-clause-answer g c = not_found {X = KnownDatabase} g.S.Store c.args.self.now c.know.new.self c.args.name.now found_in known_values _ _ _ _ c.in_err-known.ensures.answer (search rules)

pub returns-clause-answer : goal.returns-clause-answer
returns-clause-answer g c =
    let s = c.args.self.now in
    let trees = trees_of g.S.Store s in
    answered g.S.Store s c.know.new.self (λ v. v) _ _ _ c.read_security-security.result c.read_security-security.ensures
    (λ honest.
    let found = there found_in trees c.args.name.now _ (c.in_ok-known.ensures.answer honest) in (
      (λ none. ∥∥₁_elim (laid g.S.Store s (was_honest g.S.Store s c.know.new.self c.know.ensures.stands honest)) (λ p q. absurd p) (λ l. none (security_intact trees c.args.name.now _ l found))),
      security_there trees c.args.name.now _ found,
    ))

pub returns-clause-reads : goal.returns-clause-reads
returns-clause-reads g c =
    let s = c.know.ensures.stands in
    reads g.S.Store c.args.self.now _ (record { origin = s.origin; last = s.last; counted = s.counted; clean = s.clean })
