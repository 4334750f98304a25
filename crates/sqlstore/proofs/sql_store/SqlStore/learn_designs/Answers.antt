use Rattle.sqlstore.proofs.Lemmas.{IsKnown, known_so, state, subst, trees_of, was_honest, ∥∥₁_map, ◌∙◌}
use Rattle.sqlstore.proofs.sql_store.SqlStore.learn_designs.Goals as goal

pub invariant_of-self : goal.invariant_of-self
invariant_of-self g c =
    let s = c.args.self.now in
    let mid = c.read_designs.new.self in
    let trees = trees_of g.S.Store s in
    let e = c.in-Ok.ensures in
    let stands = c.read_designs.ensures.stands in
    record {
      standing = known_so g.S.Store s mid c.keep_designs.new.known stands (λ honest.
          let rows = c.requires (was_honest g.S.Store s mid stands honest) in
          ∥∥₁_map (subst (λ h. ∥ IsKnown (state g.S.Store h).now.trees mid.known ∥₁) stands.last (mid.standing.known_so honest.0 honest.1))
          (λ known. c.keep_designs.ensures trees known (record { rows = e.rows ∙ rows; each = e.designs honest })));
    }
