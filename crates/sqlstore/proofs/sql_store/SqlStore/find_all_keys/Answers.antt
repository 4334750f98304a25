use Rattle.std.specs.Vec.Iter.{into_iter_items}
use Rattle.sqlite_keyed.proofs.ListLemmas.{all-append}
use Rattle.sqlstore.proofs.Lemmas.{AllByRecursion, List, Trees, arith, refl, rules, stands_same, stands_then, subst, sym, trees_of, was_honest, ℕ, ◌∷◌, ◌≡◌}
use Rattle.sqlstore.specs.inner.CountedKeys.{IsFound}
use Rattle.sqlstore.specs.inner.Keys.{AreIndexRanks, AreKeys}
use Rattle.sqlstore.specs.inner.Marks.{documents_at}
use Rattle.sqlstore.proofs.sql_store.SqlStore.find_all_keys.Goals as goal

pub loop-ranks-init : goal.loop-ranks-init
loop-ranks-init g c =
    let trees = trees_of g.S.Store c.args.self.now in
    let n = c.args.number.now in
    record {
      stands = record { origin = refl; last = refl; counted = omega arith; clean = λ clean. clean };
      left = λ are. subst (AreIndexRanks trees n) (sym c.into_iter-ranks-iterator.ensures.into_iter_gives.0) are;
      so_far = λ honest are. subst (AllByRecursion (IsFound trees n)) (sym c.in_ok-found.ensures.items) tt;
    }

pub loop-ranks-preserved : goal.loop-ranks-preserved
loop-ranks-preserved g c =
    let s = c.args.self.now in
    let mid = c.loop-ranks.self in
    let end = c.find_keys.new.self in
    let n = c.args.number.now in
    let trees = trees_of g.S.Store s in
    let inv = c.loop-ranks.invariant in
    let e = c.in_ok-keys.ensures in
    let one = c.in-Some.ranks in
    let left = into_iter_items c.next.new.self in
    let first : into_iter_items c.loop-ranks.ranks-iterator ≡ one ∷ left = search rules in
    record {
      stands = stands_then g.S.Store s mid end inv.stands e.stands;
      left = λ are. (subst (AreIndexRanks trees n) first (inv.left are)).1;
      so_far = λ honest are.
          let keys = subst (λ (t : Trees). AreKeys one.declaration.fields.items c.in_ok-keys.keys (documents_at t n)) (stands_same g.S.Store s mid inv.stands)
          (subst (λ (fields : List (List ℕ)). AreKeys fields c.in_ok-keys.keys (documents_at (trees_of g.S.Store mid) n)) c.deref.ensures.value (e.keys honest)) in
          subst (AllByRecursion (IsFound trees n)) (sym c.in_ok-push.ensures.items)
          (all-append (IsFound trees n) c.loop-ranks.found.items _ (inv.so_far (was_honest g.S.Store mid end e.stands honest) are) (((subst (AreIndexRanks trees n) first (inv.left are)).0, keys), tt));
    }
