use Rattle.std.proofs.Common.{refl, arith}
use Rattle.engine.proofs.Deeds.{goes_more, goes_none, logs_none}
use Rattle.engine.proofs.serving.Conversations.take_rounds.Goals as goal

pub loop-number-init : goal.loop-number-init
loop-number-init g c = record { goes_on = goes_none g.S.Store refl refl (omega arith) (logs_none (g.W.Sockets.log c.args.sockets.now)); accepted = c.requires.accepted }

pub loop-number-preserved : goal.loop-number-preserved
loop-number-preserved g c = record {
  goes_on = goes_more g.S.Store c.loop-number.invariant.goes_on refl c.take_round.ensures.goes_on;
  accepted = c.take_round.ensures.accepted;
}

pub returns-in_err-take_round-clause-goes_on : goal.returns-in_err-take_round-clause-goes_on
returns-in_err-take_round-clause-goes_on g c = goes_more g.S.Store c.loop-number.invariant.goes_on refl c.take_round.ensures.goes_on
