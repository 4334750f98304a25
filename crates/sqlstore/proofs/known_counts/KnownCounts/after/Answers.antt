use Rattle.sqlstore.proofs.MarkCounts.{counts_step}
use Rattle.sqlstore.proofs.known_counts.KnownCounts.after.Goals as goal

pub loop-change-preserved : goal.loop-change-preserved
loop-change-preserved c = record {
  so_far = λ old new changes counts.
      let before = c.loop-change.invariant.so_far old new changes counts in
      counts_step c.args.changes.now c.loop-change.change-index c.change-item.result c.loop-change.counts c.after_one-counts.result before.0 new c.loop-change-test.true c.change-item.is c.after_one-counts.ensures before.1 before.2;
}
