use Rattle.std.proofs.Common.{refl}
use Rattle.engine.proofs.Deeds.{logs_none}
use Rattle.engine.proofs.Talks.{talks_more, talks_none}
use Rattle.engine.proofs.conversation.Conversation.take_more.Goals as goal

pub loop-number-init : goal.loop-number-init
loop-number-init g c = record {
  converses = talks_none g.S.Store c.args.conn refl refl (logs_none (g.W.Sockets.log c.args.sockets.now));
  stage = c.requires.stage;
  owed = c.requires.owed;
}

pub returns-then-ne-clause-converses : goal.returns-then-ne-clause-converses
returns-then-ne-clause-converses g c = talks_more g.S.Store c.args.conn c.loop-number.invariant.converses c.take_next-turn.ensures.converses

pub returns-then-not-is_within_request-clause-converses : goal.returns-then-not-is_within_request-clause-converses
returns-then-not-is_within_request-clause-converses g c = talks_more g.S.Store c.args.conn c.loop-number.invariant.converses c.take_next-turn.ensures.converses

pub loop-number-preserved : goal.loop-number-preserved
loop-number-preserved g c = record {
  converses = talks_more g.S.Store c.args.conn c.loop-number.invariant.converses c.take_next-turn.ensures.converses;
  stage = c.is_within_request.ensures.stage c.if-not-is_within_request.false;
  owed = c.is_within_request.ensures.owed c.if-not-is_within_request.false;
}
