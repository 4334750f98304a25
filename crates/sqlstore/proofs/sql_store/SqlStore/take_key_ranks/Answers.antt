use Rattle.sqlstore.proofs.Common.{Stands}
use Rattle.sqlstore.proofs.Lemmas.{arith, known_so, refl, trees_of, ∥∥₁_map}
use Rattle.sqlstore.proofs.sql_store.SqlStore.take_key_ranks.Goals as goal

pub invariant_of-self : goal.invariant_of-self
invariant_of-self g c =
    let s = c.args.self.now in
    let n = c.args.number.now in
    let trees = trees_of g.S.Store s in
    let stays : Stands g.S.Store s s = record { origin = refl; last = refl; counted = omega arith; clean = λ clean. clean } in
    record {
      standing = known_so g.S.Store s s c.keep_index_ranks.new.known stays
          (λ honest. ∥∥₁_map (s.standing.known_so honest.0 honest.1) (λ k.
          c.keep_index_ranks.ensures trees (c.take_index_ranks-all.ensures.known trees k) (c.part_index-rest.ensures.rest trees n (c.take_index_ranks-all.ensures.ranks trees k))));
    }

pub returns-clause-ranks : goal.returns-clause-ranks
returns-clause-ranks g c honest =
    let s = c.args.self.now in
    let n = c.args.number.now in
    let trees = trees_of g.S.Store s in
    ∥∥₁_map (s.standing.known_so honest.0 honest.1)
    (λ k. c.part_index-rest.ensures.found trees n (c.take_index_ranks-all.ensures.ranks trees k))
