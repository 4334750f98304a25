use Rattle.sqlstore.proofs.Common.{Global, IfSome, IsStanding, None, Option, Stands, Vec}
use Rattle.sqlstore.proofs.Lemmas.{IsKnown, known_so, rules, subst, sym, trees_of, was_honest, ∥∥₁_elim, ∥∥₁_map, ∥∥₁_prop, ◌≡◌}
use Rattle.sqlstore.proofs.CountedRanks.{if_moved}
use Rattle.sqlstore.proofs.Standing.{dropped}
use Rattle.sqlstore.specs.inner.CountedKeys.{AreCounted}
use Rattle.sqlstore.specs.inner.Keys.{AreKnownRanks}
use Rattle.sqlstore.specs.declared.sql_store.key_marking.CountedKeys.{CountedKeys}
use Rattle.sqlstore.proofs.sql_store.SqlStore.move_index_ranks.Goals as goal

pub invariant_of-self : goal.invariant_of-self
invariant_of-self g c =
    let s = c.args.self.now in
    let gone : c.take-known.new.self ≡ None = search rules in
    record { standing = subst (λ k. IsStanding g.S.Store s.conn s.origin.value s.last.value k s.earlier.items) (sym gone) (dropped g.S.Store s.standing) }

pub invariant_of-self-2 : goal.invariant_of-self-2
invariant_of-self-2 g c =
    let s = c.args.self.now in
    let mid = c.move_each_index-moved.new.self in
    let n = c.args.number.now in
    let trees = trees_of g.S.Store s in
    let e = c.move_each_index-moved.ensures in
    let stands : Stands g.S.Store s mid = record { origin = e.stands.origin; last = e.stands.last; counted = e.stands.counted; clean = e.stands.clean } in
    record {
      standing = known_so g.S.Store s mid c.keep_index_ranks.new.known stands (λ honest.
          let was = was_honest g.S.Store s mid stands honest in
          ∥∥₁_elim (s.standing.held was.0 was.1) ∥∥₁_prop (λ holds. ∥∥₁_elim (c.requires was) ∥∥₁_prop (λ given. ∥∥₁_map (s.standing.known_so was.0 was.1) (λ known.
          let taken = subst (IsKnown trees) (sym c.take-known.ensures.value) known in
          let counted = subst (λ (o : Option (Vec CountedKeys Global)). IfSome o (λ cs. AreCounted given.0 cs.items)) c.in-Some.is given.1 in
          let moved = if_moved trees n holds.store.laid holds.indexed c.move_each_index-moved.result (e.ranks honest taken given.0 counted given.2) in
          c.keep_index_ranks.ensures trees taken (subst (AreKnownRanks trees n) (sym c.ok.ensures.value) moved)))));
    }
