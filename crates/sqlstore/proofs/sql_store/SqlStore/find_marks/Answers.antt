use Rattle.std.specs.FinMap as finite
use Rattle.sqlstore.proofs.Lemmas.{Trees, ap, arith, refl, stands_same, stands_then, trees_of, was_honest, ◌∙◌}
use Rattle.sqlstore.proofs.MarkChanges.{marks_put, none_marked}
use Rattle.sqlstore.specs.inner.Marks.{documents_at, mark_of}
use Rattle.sqlstore.proofs.sql_store.SqlStore.find_marks.Goals as goal

pub loop-write-init : goal.loop-write-init
loop-write-init g c = record { stands = record { origin = refl; last = refl; counted = omega arith; clean = λ clean. clean }; marks = λ honest. none_marked c.new-marks.result _ c.new-marks.ensures.empty }

pub loop-write-preserved : goal.loop-write-preserved
loop-write-preserved g c =
    let s = c.args.self.now in
    let mid = c.loop-write.self in
    let end = c.find_mark.new.self in
    let n = c.args.number.now in
    let id = c.write-item.result.id in
    let inv = c.loop-write.invariant in
    let e = c.in_ok-mark.ensures in
    let documents = documents_at (trees_of g.S.Store s) n in
    record {
      stands = stands_then g.S.Store s mid end inv.stands e.stands;
      marks = λ honest.
          marks_put c.loop-write.marks c.put_found.new.found documents documents id c.in_ok-mark.mark c.in_ok-_was.ensures.put (inv.marks (was_honest g.S.Store mid end e.stands honest))
          (e.mark honest ∙ ap (λ (t : Trees). mark_of (finite.get (documents_at t n) id)) (stands_same g.S.Store s mid inv.stands)) (λ q apart. refl);
    }
