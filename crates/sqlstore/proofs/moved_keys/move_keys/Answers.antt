use Rattle.sqlstore.proofs.KeysInserted.{keys_step}
use Rattle.sqlstore.proofs.moved_keys.move_keys.Goals as goal

pub loop-change-init : goal.loop-change-init
loop-change-init c = record { so_far = λ fields old new changes ranks. (old, changes, ranks) }

pub loop-change-preserved : goal.loop-change-preserved
loop-change-preserved c = record {
  so_far = λ fields old new changes ranks.
      let before = c.loop-change.invariant.so_far fields old new changes ranks in
      keys_step fields c.args.changes.now c.loop-change.change-index c.change-item.result c.loop-change.moved c.in_ok-moved.moved before.0 new c.loop-change-test.true c.change-item.is c.in_ok-moved.ensures before.1 before.2;
}
