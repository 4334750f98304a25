use Rattle.std.proofs.Common.{refl}
use Rattle.engine.proofs.Deeds.{logs_none}
use Rattle.engine.proofs.Steps.{goes_alike, goes_closed}
use Rattle.engine.proofs.serving.Conversations.follow.Goals as goal

pub returns-then-is_ended-clause-goes_on : goal.returns-then-is_ended-clause-goes_on
returns-then-is_ended-clause-goes_on g c = λ most.
    goes_closed g.S.Store c.args.hub.now c.end.new.hub c.args.self.now.conversations.entries c.end.new.self.conversations.entries c.args.conn c.args.self.now.accepted c.end.new.self.accepted
    (g.W.Sockets.log c.args.sockets.now) (g.W.Sockets.log c.end.new.sockets) c.end.ensures.hub c.end.ensures.ends c.end.ensures.accepted c.end.ensures.log

pub returns-else-is_ended-clause-goes_on : goal.returns-else-is_ended-clause-goes_on
returns-else-is_ended-clause-goes_on g c = λ most.
    goes_alike g.S.Store c.args.hub.now c.args.hub.now c.args.self.now.conversations.entries c.note_next.new.self.conversations.entries c.args.self.now.accepted c.note_next.new.self.accepted
    (g.W.Sockets.log c.args.sockets.now) (g.W.Sockets.log c.args.sockets.now) refl c.note_next.ensures.alike c.note_next.ensures.accepted (logs_none (g.W.Sockets.log c.args.sockets.now))
