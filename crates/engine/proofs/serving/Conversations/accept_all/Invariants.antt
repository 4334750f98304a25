use Rattle.std.proofs.Common.{◌≤◌}
use Rattle.engine.specs.Conversing.{GoesOnWithin}
use Rattle.engine.specs.inner.Rounds.{state_of}
use Rattle.engine.proofs.serving.Conversations.accept_all.Given as goal

abbrev pub invariant-loop-number : goal.invariant-loop-number
invariant-loop-number g l = record {
  goes_on : GoesOnWithin g.S.Store l.limits.at_once (state_of l.initial.hub l.initial.self.conversations.entries l.initial.self.accepted (g.W.Sockets.log l.initial.sockets))
      (state_of l.hub l.self.conversations.entries l.self.accepted (g.W.Sockets.log l.sockets));
  accepted : l.self.accepted ≤ l.limits.conns;
}
