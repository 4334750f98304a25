use Rattle.transactions.proofs.Lemmas.{HasCleanDisk, ap, arith, next_of, path_step, proceeds_then, state, take_rest, ◌+◌, ◌∙◌}
use Rattle.transactions.proofs.document_write.insert_line.Goals as goal

pub loop-i-preserved : goal.loop-i-preserved
loop-i-preserved g c =
    let inv = c.loop-i.invariant in
    let old = state g.S.Store c.args.tx.now.conn.now in
    let mid = state g.S.Store c.loop-i.tx.conn.now in
    let new = state g.S.Store c.insert_passed.new.tx.conn.now in
    let e = c.insert_passed.ensures in
    record {
      same = e.same_reference ∙ inv.same;
      proceeds = proceeds_then old mid new inv.proceeds e.proceeds;
      way = λ clean has keyed.
          let was : HasCleanDisk mid = omega (arith, e.proceeds.survives.clean, clean) in
          let before = inv.way was has keyed in
          path_step c.args.db.now c.args.id.now _ c.args.history.now c.args.path.now c.args.parent.now c.loop-i.i c.index-path-i.result _ old.now mid.now new.now c.loop-i-test.true c.index-path-i.is
          (c.find_next.ensures ∙ ap (λ p. next_of p c.args.parent.now) (take_rest c.args.path.now (c.loop-i.i + 1))) before (c.in_ok-insert_passed.ensures.ok clean before.schema_is before.fit);
    }
