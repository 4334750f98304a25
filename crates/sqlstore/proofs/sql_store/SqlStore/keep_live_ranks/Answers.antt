use Rattle.sqlstore.proofs.Common.{Stands}
use Rattle.sqlstore.proofs.Lemmas.{arith, known_so, refl, trees_of, ∥∥₁_map}
use Rattle.sqlstore.proofs.sql_store.SqlStore.keep_live_ranks.Goals as goal

pub invariant_of-self : goal.invariant_of-self
invariant_of-self g c =
    let s = c.args.self.now in
    let trees = trees_of g.S.Store s in
    let stays : Stands g.S.Store s s = record { origin = refl; last = refl; counted = omega arith; clean = λ clean. clean } in
    record {
      standing = known_so g.S.Store s s c.keep_ranks.new.known stays
          (λ honest. ∥∥₁_map (s.standing.known_so honest.0 honest.1) (λ k. c.keep_ranks.ensures trees k (c.requires honest)));
    }
