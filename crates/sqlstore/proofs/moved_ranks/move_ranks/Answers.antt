use Rattle.std.proofs.Common.{IfSome, Option, subst}
use Rattle.ranks.specs.Counts.{AreRanksOf}
use Rattle.ranks.specs.Seen.{Ranks}
use Rattle.sqlstore.proofs.LiveKeys.{ranks_step}
use Rattle.sqlstore.specs.inner.Marks.{live_keys}
use Rattle.sqlstore.proofs.moved_ranks.move_ranks.Goals as goal

pub loop-change-init : goal.loop-change-init
loop-change-init c = record { so_far = λ old new changes ranks. (old, changes, subst (λ (o : Option Ranks). IfSome o (λ r. AreRanksOf r (live_keys old))) c.in_ok-moved.was ranks) }

pub loop-change-preserved : goal.loop-change-preserved
loop-change-preserved c = record {
  so_far = λ old new changes ranks.
      let before = c.loop-change.invariant.so_far old new changes ranks in
      ranks_step c.args.changes.now c.loop-change.change-index c.change-item.result c.loop-change.moved c.in_ok-moved-2.moved before.0 new c.loop-change-test.true c.change-item.is c.in_ok-moved-2.ensures before.1 before.2;
}
