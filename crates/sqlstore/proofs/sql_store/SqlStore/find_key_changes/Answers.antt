use Rattle.std.specs.FinMap as finite
use Rattle.std.proofs.lemmas.List.{take_all, take_more}
use Rattle.std.specs.Prelude.{is_some, true}
use Rattle.sqlstore.proofs.Common.{subst, take}
use Rattle.sqlstore.proofs.Lemmas.{Trees, [], ap, arith, map-append, refl, stands_same, stands_then, sym, trees_of, was_honest, ◌++◌, ◌∙◌, ◌∷◌, ◌≡◌}
use Rattle.sqlstore.proofs.KeyChanges.{key_changed_at}
use Rattle.sqlstore.proofs.MarkChanges.{IsMixed, mixed_all, mixed_none}
use Rattle.sqlstore.specs.inner.Keys.{AreKeyChanges, document_key}
use Rattle.sqlstore.specs.inner.Marks.{documents_at, ids_of}
use Rattle.store.specs.declared.write.Write.{Write}
use Rattle.sqlstore.proofs.sql_store.SqlStore.find_key_changes.Goals as goal

pub loop-write-init : goal.loop-write-init
loop-write-init g c = record {
  stands = record { origin = refl; last = refl; counted = omega arith; clean = λ clean. clean };
  so_far = λ honest old keys. (old, subst (λ l. AreKeyChanges c.args.fields.now l old old) (sym c.in_ok-changes.ensures.items) refl, keys, mixed_none old (documents_at (trees_of g.S.Store c.args.self.now) c.args.number.now));
}

pub loop-write-preserved : goal.loop-write-preserved
loop-write-preserved g c =
    let s = c.args.self.now in
    let mid = c.loop-write.self in
    let end = c.find_key_change.new.self in
    let n = c.args.number.now in
    let fields = c.args.fields.now in
    let ws = c.args.writes.now in
    let i = c.loop-write.write-index in
    let w = c.write-item.result in
    let one = c.in_ok-change.change in
    let inv = c.loop-write.invariant in
    let e = c.in_ok-change.ensures in
    let documents = documents_at (trees_of g.S.Store s) n in
    let named = λ (w : Write). w.id in
    let ids = ap ids_of (take_more ws i w c.loop-write-test.true ∙ (λ j. take i ws ++ sym c.write-item.is j ∷ [])) ∙ map-append named (take i ws) (w ∷ []) in
    record {
      stands = stands_then g.S.Store s mid end inv.stands e.stands;
      so_far = λ honest old keys.
          let before = inv.so_far (was_honest g.S.Store mid end e.stands honest) old keys in
          let same = stands_same g.S.Store s mid inv.stands in
          let written = subst (λ (t : Trees). is_some (finite.get (documents_at t n) w.id) ≡ true) same (e.written honest) in
          let is = e.is honest ∙ ap (λ (t : Trees). document_key fields w.id (finite.get (documents_at t n) w.id)) same in
          let next = key_changed_at fields c.loop-write.keys c.find_key_change.new.keys (ids_of (take i ws)) c.loop-write.changes.items one old documents before.0 w.id e.id e.put e.was written is before.1 before.2 before.3 in (
            next.0,
            subst (λ l. AreKeyChanges fields l old next.0) (sym c.in_ok-push.ensures.items) next.1,
            next.2,
            subst (λ l. IsMixed l old documents next.0) (sym ids) next.3,
          );
    }

pub returns-clause-changes : goal.returns-clause-changes
returns-clause-changes g c honest old keys keeps =
    let ws = c.args.writes.now in
    let i = c.loop-write.write-index in
    let documents = documents_at (trees_of g.S.Store c.args.self.now) c.args.number.now in
    let far = c.loop-write.invariant.so_far honest old keys in
    let all = take_all i ws (omega (arith, c.loop-write-test.false)) in
    subst (AreKeyChanges c.args.fields.now c.loop-write.changes.items old) (mixed_all (ids_of ws) old documents far.0 keeps (subst (λ l. IsMixed (ids_of l) old documents far.0) all far.3)) far.1
