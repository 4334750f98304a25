use Rattle.std.specs.FinMap as finite
use Rattle.sqlstore.proofs.Lemmas.{Trees, ap, arith, refl, stands_same, stands_then, trees_of, was_honest, ◌∙◌}
use Rattle.sqlstore.proofs.KeyChanges.{keys_put, none_keyed}
use Rattle.sqlstore.proofs.SeenKeys.{key_made}
use Rattle.sqlstore.specs.inner.Keys.{document_key}
use Rattle.sqlstore.specs.inner.Marks.{documents_at}
use Rattle.sqlstore.specs.inner.Seen.{values_seen}
use Rattle.sqlstore.proofs.sql_store.SqlStore.find_keys.Goals as goal

pub loop-write-init : goal.loop-write-init
loop-write-init g c = record { stands = record { origin = refl; last = refl; counted = omega arith; clean = λ clean. clean }; keys = λ honest. none_keyed c.args.fields.now c.new-keys.result _ c.new-keys.ensures.empty }

pub loop-write-preserved : goal.loop-write-preserved
loop-write-preserved g c =
    let s = c.args.self.now in
    let mid = c.loop-write.self in
    let end = c.find_seen.new.self in
    let n = c.args.number.now in
    let fields = c.args.fields.now in
    let id = c.write-item.result.id in
    let inv = c.loop-write.invariant in
    let e = c.in_ok-seen.ensures in
    let documents = documents_at (trees_of g.S.Store s) n in
    record {
      stands = stands_then g.S.Store s mid end inv.stands e.stands;
      keys = λ honest.
          keys_put fields c.loop-write.keys c.put_found.new.found documents documents id c.in_ok-key.key c.in_ok-_was.ensures.put (inv.keys (was_honest g.S.Store mid end e.stands honest))
          (c.in_ok-key.ensures ∙ key_made id (values_seen c.in_ok-seen.seen) (finite.get (documents_at (trees_of g.S.Store mid) n) id) (e.seen honest) fields
          ∙ ap (λ (t : Trees). document_key fields id (finite.get (documents_at t n) id)) (stands_same g.S.Store s mid inv.stands)) (λ q apart. refl);
    }
