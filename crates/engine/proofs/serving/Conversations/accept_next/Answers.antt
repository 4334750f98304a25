use Rattle.std.proofs.Common.{refl, arith}
use Rattle.engine.proofs.Deeds.{goes_none}
use Rattle.engine.proofs.Steps.{goes_accepted, goes_opened}
use Rattle.engine.proofs.serving.Conversations.accept_next.Goals as goal

pub returns-in-Never-clause-goes_on : goal.returns-in-Never-clause-goes_on
returns-in-Never-clause-goes_on g c = λ most lt. goes_none g.S.Store refl refl (omega arith) c.in-Never.ensures

pub returns-in-Reset-clause-goes_on : goal.returns-in-Reset-clause-goes_on
returns-in-Reset-clause-goes_on g c = λ most lt.
    goes_accepted g.S.Store c.args.hub.now c.args.self.now.conversations.entries c.args.self.now.accepted (g.W.Sockets.log c.args.sockets.now) (g.W.Sockets.log c.accept.new.self) c.in-Reset.ensures

pub returns-in-Later-clause-goes_on : goal.returns-in-Later-clause-goes_on
returns-in-Later-clause-goes_on g c = λ most lt. goes_none g.S.Store refl refl (omega arith) c.in-Later.ensures

pub returns-in-One-clause-goes_on : goal.returns-in-One-clause-goes_on
returns-in-One-clause-goes_on g c = λ most lt.
    goes_opened g.S.Store c.args.hub.now c.add.new.hub c.args.self.now.conversations.entries c.add.new.self.conversations.entries c.args.self.now.accepted c.add.new.self.accepted
    (g.W.Sockets.log c.args.sockets.now) (g.W.Sockets.log c.accept.new.self) (g.W.Sockets.log c.add.new.sockets) lt c.in-One.ensures (c.add.ensures.goes_on most)
