use Rattle.std.proofs.Common.{refl}
use Rattle.engine.proofs.Deeds.{goes_more}
use Rattle.engine.proofs.serving.Conversations.take_turn.Goals as goal

pub returns-clause-goes_on : goal.returns-clause-goes_on
returns-clause-goes_on g c = λ most. goes_more g.S.Store (c.turn_of-turn.ensures.goes_on most) refl (c.follow.ensures.goes_on most)
