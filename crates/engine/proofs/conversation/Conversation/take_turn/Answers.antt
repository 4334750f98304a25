use Rattle.std.proofs.Common.{refl}
use Rattle.engine.proofs.Deeds.{logs_none}
use Rattle.engine.proofs.Talks.{talks_none}
use Rattle.engine.proofs.conversation.Conversation.take_turn.Goals as goal

pub returns-in-Lost-clause-converses : goal.returns-in-Lost-clause-converses
returns-in-Lost-clause-converses g c = talks_none g.S.Store c.args.conn refl refl (logs_none (g.W.Sockets.log c.args.sockets.now))
