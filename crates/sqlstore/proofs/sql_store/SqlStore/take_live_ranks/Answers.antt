use Rattle.sqlstore.proofs.Common.{Stands}
use Rattle.sqlstore.proofs.Lemmas.{arith, known_so, refl, trees_of, ∥∥₁_elim, ∥∥₁_map}
use Rattle.sqlstore.proofs.Ranking.{known_ranks_prop}
use Rattle.sqlstore.specs.inner.Listing.{live_ids}
use Rattle.sqlstore.proofs.sql_store.SqlStore.take_live_ranks.Goals as goal

pub invariant_of-self : goal.invariant_of-self
invariant_of-self g c =
    let s = c.args.self.now in
    let trees = trees_of g.S.Store s in
    let stays : Stands g.S.Store s s = record { origin = refl; last = refl; counted = omega arith; clean = λ clean. clean } in
    record {
      standing = known_so g.S.Store s s c.take_ranks.new.known stays
          (λ honest. ∥∥₁_map (s.standing.known_so honest.0 honest.1) (λ k. c.take_ranks.ensures.known trees k));
    }

pub returns-clause-ranks : goal.returns-clause-ranks
returns-clause-ranks g c honest =
    let s = c.args.self.now in
    let trees = trees_of g.S.Store s in
    ∥∥₁_elim (s.standing.known_so honest.0 honest.1) (known_ranks_prop c.take_ranks.result (live_ids trees c.args.number.now))
    (λ k. c.take_ranks.ensures.ranks trees k)
