use Rattle.std.proofs.Common.{◌∙◌, refl, arith}
use Rattle.engine.proofs.Deeds.{goes_more, goes_none, logs_none}
use Rattle.engine.proofs.serving.Conversations.take_turns.Goals as goal

pub loop-number-init : goal.loop-number-init
loop-number-init g c = record { goes_on = λ most. goes_none g.S.Store refl refl (omega arith) (logs_none (g.W.Sockets.log c.args.sockets.now)); accepted = refl }

pub loop-number-preserved : goal.loop-number-preserved
loop-number-preserved g c = record {
  goes_on = λ most. goes_more g.S.Store (c.loop-number.invariant.goes_on most) refl (c.take_turn.ensures.goes_on most);
  accepted = c.take_turn.ensures.accepted ∙ c.loop-number.invariant.accepted;
}
