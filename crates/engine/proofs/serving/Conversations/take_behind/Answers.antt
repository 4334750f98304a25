use Rattle.std.proofs.Common.{refl, arith}
use Rattle.engine.proofs.Deeds.{goes_none, logs_none}
use Rattle.engine.proofs.serving.Conversations.take_behind.Goals as goal

pub returns-in_default-clause-goes_on : goal.returns-in_default-clause-goes_on
returns-in_default-clause-goes_on g c = λ most. goes_none g.S.Store refl refl (omega arith) (logs_none (g.W.Sockets.log c.args.sockets.now))
