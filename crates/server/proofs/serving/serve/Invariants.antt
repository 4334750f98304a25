use Rattle.std.proofs.Common.{◌≡◌}
use Rattle.store.specs.Calls.{GoesOn}
use Rattle.server.specs.Accepting.{acceptances_of}
use Rattle.server.proofs.ServingLemmas.{HasServed}
use Rattle.server.proofs.serving.serve.Given as goal

-- so many connections were served
abbrev pub invariant-loop-number : goal.invariant-loop-number
invariant-loop-number g l = record {
  served : HasServed g.S.Store l._number (acceptances_of l.initial.listener.log.items) (acceptances_of l.listener.log.items) l.initial.hub l.hub;
  configuration : l.hub.node.configuration ≡ l.initial.hub.node.configuration;
  onward : GoesOn g.S.Store l.initial.hub.node.store l.hub.node.store;
}
