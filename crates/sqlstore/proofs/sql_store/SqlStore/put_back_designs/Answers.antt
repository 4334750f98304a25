use Rattle.sqlstore.proofs.Common.{Stands}
use Rattle.sqlstore.proofs.Designs.{known_designs_kept}
use Rattle.sqlstore.proofs.Lemmas.{arith, known_so, laid, refl, rules, trees_of, ∥∥₁_elim, ∥∥₁_map, ∥∥₁_prop}
use Rattle.sqlstore.specs.inner.Marks.{ids_of}
use Rattle.sqlstore.proofs.sql_store.SqlStore.put_back_designs.Goals as goal

pub invariant_of-self : goal.invariant_of-self
invariant_of-self g c =
    let s = c.args.self.now in
    let n = c.args.number.now in
    let trees = trees_of g.S.Store s in
    let stays : Stands g.S.Store s s = record { origin = refl; last = refl; counted = omega arith; clean = λ clean. clean } in
    let none = c.writes_design.ensures (search rules) in
    record {
      standing = known_so g.S.Store s s c.keep_designs.new.known stays (λ honest.
          ∥∥₁_elim (laid g.S.Store s honest) ∥∥₁_prop (λ l. ∥∥₁_elim (c.requires honest) ∥∥₁_prop (λ given.
          ∥∥₁_map (s.standing.known_so honest.0 honest.1) (λ known. c.keep_designs.ensures trees known
          (known_designs_kept given.0 trees n given.1 l (ids_of c.args.writes.now) given.3 none c.args.designs given.2)))));
    }
