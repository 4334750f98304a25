use Rattle.engine.proofs.Talks.{talks_more}
use Rattle.engine.proofs.conversation.Conversation.take_pieces.Goals as goal

pub returns-clause-converses : goal.returns-clause-converses
returns-clause-converses g c = talks_more g.S.Store c.args.conn c.take_next-turn.ensures.converses c.take_more.ensures.converses
