use Rattle.sqlstore.proofs.Lemmas.{forgotten, state, subst, trees_of, ∥∥₁_map}
use Rattle.sqlstore.specs.Standing.{AreKnown}
use Rattle.sqlstore.proofs.sql_store.SqlStore.take_known.Goals as goal

pub invariant_of-self : goal.invariant_of-self
invariant_of-self g c = record { standing = forgotten g.S.Store c.take_named.ensures.others c.take_latest.new.self.standing }

pub returns-clause-known : goal.returns-clause-known
returns-clause-known g c honest =
    let s = c.args.self.now in
    let mid = c.take_latest.new.self in
    let after = c.take_latest.ensures.honest honest in
    ∥∥₁_map (subst (λ h. ∥ AreKnown (state g.S.Store h).now.trees mid.earlier.items ∥₁) c.take_latest.ensures.stands.last (mid.standing.earlier_so after.0 after.1)) (c.take_named.ensures.known (trees_of g.S.Store s))
