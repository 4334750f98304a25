use Rattle.sqlite_keyed.proofs.ListLemmas.{all-append}
use Rattle.sqlstore.proofs.Lemmas.{IsKnown, Trees, [], arith, refl, stands_same, stands_then, subst, sym, trees_of, was_honest, ◌∷◌}
use Rattle.sqlstore.specs.inner.CountedKeys.{AreCounted, AreMoved, IsMoved}
use Rattle.sqlstore.specs.inner.Marks.{KeepsElsewhere, documents_at, ids_of}
use Rattle.sqlstore.proofs.sql_store.SqlStore.move_each_index.Goals as goal

pub loop-one-init : goal.loop-one-init
loop-one-init g c =
    let trees = trees_of g.S.Store c.args.self.now in
    record {
      stands = record { origin = refl; last = refl; counted = omega arith; clean = λ clean. clean };
      left = λ old are. subst (AreCounted old) (sym c.into_iter-one-iterator.ensures.into_iter_gives.0) are;
      so_far = λ honest known old are keeps. subst (AreMoved trees c.args.number.now) (sym c.in_ok-moved.ensures.items) tt;
    }

pub loop-one-preserved-in_default : goal.loop-one-preserved-in_default
loop-one-preserved-in_default g c =
    let s = c.args.self.now in
    let mid = c.loop-one.self in
    let end = c.move_one_index.new.self in
    let inv = c.loop-one.invariant in
    let stands = c.move_one_index.ensures.stands in
    record {
      stands = stands_then g.S.Store s mid end inv.stands stands;
      left = λ old are. (subst (AreCounted old) c.in-Some.ensures.steps.0 (inv.left old are)).1;
      so_far = λ honest. inv.so_far (was_honest g.S.Store mid end stands honest);
    }

pub loop-one-preserved : goal.loop-one-preserved
loop-one-preserved g c =
    let s = c.args.self.now in
    let mid = c.loop-one.self in
    let end = c.move_one_index.new.self in
    let n = c.args.number.now in
    let ids = ids_of c.args.writes.now in
    let trees = trees_of g.S.Store s in
    let inv = c.loop-one.invariant in
    let stands = c.move_one_index.ensures.stands in
    record {
      stands = stands_then g.S.Store s mid end inv.stands stands;
      left = λ old are. (subst (AreCounted old) c.in-Some.ensures.steps.0 (inv.left old are)).1;
      so_far = λ honest known old are keeps.
          let counted = (subst (AreCounted old) c.in-Some.ensures.steps.0 (inv.left old are)).0 in
          let same = stands_same g.S.Store s mid inv.stands in
          let moved = c.in-Some-move_one_index.ensures.ranks honest (subst (λ (t : Trees). IsKnown t c.args.known.now) (sym same) known) old counted
          (subst (λ (t : Trees). KeepsElsewhere ids old (documents_at t n)) (sym same) keeps) in
          subst (AreMoved trees n) (sym c.in_ok-push.ensures.items)
          (all-append (IsMoved trees n) c.loop-one.moved.items (c.in-Some-move_one_index.ranks ∷ []) (inv.so_far (was_honest g.S.Store mid end stands honest) known old are keeps)
          (subst (λ (t : Trees). IsMoved t n c.in-Some-move_one_index.ranks) same moved, tt));
    }
