use Rattle.std.proofs.Common.{◌∙◌, refl, arith}
use Rattle.engine.proofs.Deeds.{goes_more, goes_none}
use Rattle.engine.proofs.Steps.{goes_alike}
use Rattle.engine.proofs.serving.Conversations.take_round.Goals as goal

pub returns-in_default-clause-goes_on : goal.returns-in_default-clause-goes_on
returns-in_default-clause-goes_on g c = goes_none g.S.Store refl refl (omega arith) c.wait.ensures

pub returns-in_err-accept_all-clause-goes_on : goal.returns-in_err-accept_all-clause-goes_on
returns-in_err-accept_all-clause-goes_on g c =
    goes_more g.S.Store
    (goes_alike g.S.Store c.args.hub.now c.args.hub.now c.args.self.now.conversations.entries c.note_ready.new.self.conversations.entries c.args.self.now.accepted c.note_ready.new.self.accepted
    (g.W.Sockets.log c.args.sockets.now) (g.W.Sockets.log c.wait.new.self) refl (c.note_ready.ensures.alike ∙ c.note_second.ensures.alike)
    (c.note_ready.ensures.accepted ∙ c.note_second.ensures.accepted) c.wait.ensures)
    refl c.accept_all.ensures.goes_on

pub returns-clause-goes_on : goal.returns-clause-goes_on
returns-clause-goes_on g c =
    goes_more g.S.Store
    (goes_more g.S.Store
    (goes_more g.S.Store
    (goes_alike g.S.Store c.args.hub.now c.args.hub.now c.args.self.now.conversations.entries c.note_ready.new.self.conversations.entries c.args.self.now.accepted c.note_ready.new.self.accepted
    (g.W.Sockets.log c.args.sockets.now) (g.W.Sockets.log c.wait.new.self) refl (c.note_ready.ensures.alike ∙ c.note_second.ensures.alike)
    (c.note_ready.ensures.accepted ∙ c.note_second.ensures.accepted) c.wait.ensures)
    refl c.accept_all.ensures.goes_on)
    refl (c.take_turns.ensures.goes_on c.args.limits.now.at_once))
    refl (c.take_behind.ensures.goes_on c.args.limits.now.at_once)

pub returns-clause-accepted : goal.returns-clause-accepted
returns-clause-accepted g c = omega (arith, c.take_behind.ensures.accepted, c.take_turns.ensures.accepted, c.accept_all.ensures.accepted)
