use Rattle.std.proofs.Common.{false, refl, sym, subst, arith}
use Rattle.engine.specs.Conversing.{GoesOnWithin}
use Rattle.engine.specs.inner.Rounds.{state_of}
use Rattle.engine.proofs.Deeds.{goes_none, logs_none}
use Rattle.engine.proofs.Steps.{goes_talk}
use Rattle.engine.proofs.Talks.{talks_none}
use Rattle.engine.proofs.serving.Conversations.turn_of.Goals as goal

pub returns-in_default-clause-goes_on : goal.returns-in_default-clause-goes_on
returns-in_default-clause-goes_on g c = λ most.
    subst (λ m. GoesOnWithin g.S.Store most (state_of c.args.hub.now c.args.self.now.conversations.entries c.args.self.now.accepted (g.W.Sockets.log c.args.sockets.now))
    (state_of c.args.hub.now m.entries c.args.self.now.accepted (g.W.Sockets.log c.args.sockets.now))) (sym c.get_mut.follows.holds-at-none)
    (goes_none g.S.Store refl refl (omega arith) (logs_none (g.W.Sockets.log c.args.sockets.now)))

pub returns-clause-goes_on : goal.returns-clause-goes_on
returns-clause-goes_on g c = λ most.
    goes_talk g.S.Store c.args.hub.now c.take_turn.new.hub c.args.self.now.conversations.entries (c.get_mut.follows.lender c.take_turn.new.self).entries c.args.conn c.args.self.now.accepted
    c.in-Some.conversation.now c.take_turn.new.self (g.W.Sockets.log c.args.sockets.now) (g.W.Sockets.log c.take_turn.new.sockets) (sym c.in-Some.ensures.value)
    (c.get_mut.follows.holds c.take_turn.new.self).0 c.take_turn.ensures.converses

pub returns-then-is_drained-clause-goes_on : goal.returns-then-is_drained-clause-goes_on
returns-then-is_drained-clause-goes_on g c = λ most.
    let w = c.in-Some.conversation.now in
    let x = record w { queued = false } in
    goes_talk g.S.Store c.args.hub.now c.args.hub.now c.args.self.now.conversations.entries (c.get_mut.follows.lender x).entries c.args.conn c.args.self.now.accepted
    c.in-Some.conversation.now x (g.W.Sockets.log c.args.sockets.now) (g.W.Sockets.log c.args.sockets.now) (sym c.in-Some.ensures.value)
    (c.get_mut.follows.holds x).0 (talks_none g.S.Store c.args.conn refl refl (logs_none (g.W.Sockets.log c.args.sockets.now)))
