use Rattle.sqlstore.proofs.Lemmas.{trees_of, ∥∥₁_map}
use Rattle.sqlstore.proofs.Standing.{known_less}
use Rattle.sqlstore.proofs.sql_store.SqlStore.part_designs.Goals as goal

pub invariant_of-self : goal.invariant_of-self
invariant_of-self g c = record { standing = known_less g.S.Store c.take_designs.ensures.known c.args.self.now.standing }

pub returns-clause-designs : goal.returns-clause-designs
returns-clause-designs g c honest = ∥∥₁_map (c.args.self.now.standing.known_so honest.0 honest.1) (c.take_designs.ensures.designs (trees_of g.S.Store c.args.self.now))
