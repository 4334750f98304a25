use Rattle.std.proofs.Common.{refl, arith}
use Rattle.engine.proofs.Deeds.{goes_more, goes_none, logs_none}
use Rattle.engine.proofs.serving.Conversations.accept_all.Goals as goal

pub loop-number-init : goal.loop-number-init
loop-number-init g c = record { goes_on = goes_none g.S.Store refl refl (omega arith) (logs_none (g.W.Sockets.log c.args.sockets.now)); accepted = c.requires.accepted }

pub loop-number-preserved : goal.loop-number-preserved
loop-number-preserved g c = record {
  goes_on = goes_more g.S.Store c.loop-number.invariant.goes_on refl (c.accept_next.ensures.goes_on c.args.limits.now.at_once (c.can_accept.ensures.room c.if-not-can_accept.false));
  accepted = omega (arith, c.accept_next.ensures.accepted, c.can_accept.ensures.accepted c.if-not-can_accept.false);
}

pub returns-in_err-accept_next-clause-goes_on : goal.returns-in_err-accept_next-clause-goes_on
returns-in_err-accept_next-clause-goes_on g c =
    goes_more g.S.Store c.loop-number.invariant.goes_on refl (c.accept_next.ensures.goes_on c.args.limits.now.at_once (c.can_accept.ensures.room c.if-not-can_accept.false))

pub returns-in_err-accept_next-clause-accepted : goal.returns-in_err-accept_next-clause-accepted
returns-in_err-accept_next-clause-accepted g c = omega (arith, c.accept_next.ensures.accepted, c.can_accept.ensures.accepted c.if-not-can_accept.false)
