use Rattle.std.proofs.Common.{◌∙◌, ap}
use Rattle.std.specs.FinMap.{remove}
use Rattle.engine.proofs.Deeds.{logs_none}
use Rattle.engine.proofs.Steps.{goes_away, goes_begun, goes_unopened}
use Rattle.engine.proofs.serving.Conversations.add.Goals as goal

pub returns-in_default-clause-goes_on : goal.returns-in_default-clause-goes_on
returns-in_default-clause-goes_on g c = λ most.
    goes_unopened g.S.Store c.args.hub.now c.open.new.self c.args.self.now.conversations.entries c.args.self.now.accepted (g.W.Sockets.log c.args.sockets.now) (g.W.Sockets.log c.args.sockets.now)
    c.in_default.ensures.err (logs_none (g.W.Sockets.log c.args.sockets.now))

pub returns-then-begin-clause-goes_on : goal.returns-then-begin-clause-goes_on
returns-then-begin-clause-goes_on g c = λ most.
    goes_begun g.S.Store c.args.hub.now c.open.new.self c.args.self.now.conversations.entries c.note.new.self.conversations.entries c.in-Ok.conn c.args.self.now.accepted c.note.new.self.accepted
    (g.W.Sockets.log c.args.sockets.now) (g.W.Sockets.log c.begin.new.sockets) c.in-Ok.ensures.number c.in-Ok.ensures.ok (c.note.ensures.alike ∙ c.begin.ensures.begins c.if-begin.true)
    (c.note.ensures.accepted ∙ c.begin.ensures.accepted) c.begin.ensures.log

pub returns-else-begin-clause-goes_on : goal.returns-else-begin-clause-goes_on
returns-else-begin-clause-goes_on g c = λ most.
    goes_away g.S.Store c.args.hub.now c.open.new.self c.end.new.hub c.args.self.now.conversations.entries c.end.new.self.conversations.entries c.in-Ok.conn c.args.self.now.accepted c.end.new.self.accepted
    (g.W.Sockets.log c.args.sockets.now) (g.W.Sockets.log c.begin.new.sockets) (g.W.Sockets.log c.end.new.sockets) c.in-Ok.ensures.number c.in-Ok.ensures.ok c.begin.ensures.log
    c.end.ensures.hub (c.end.ensures.ends ∙ ap (λ m. remove m c.in-Ok.conn) (c.begin.ensures.refused c.if-begin.false)) (c.end.ensures.accepted ∙ c.begin.ensures.accepted) c.end.ensures.log
