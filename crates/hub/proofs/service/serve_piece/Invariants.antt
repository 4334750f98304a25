use Rattle.std.proofs.Common.{◌≡◌, length, true}
use Rattle.store.specs.Calls.{GoesOn}
use Rattle.hub.proofs.PartLemmas.{ServedSoFar}
use Rattle.hub.specs.Connections.{is_open}
use Rattle.hub.proofs.service.serve_piece.Given as goal

abbrev pub invariant-loop-rest : goal.invariant-loop-rest
invariant-loop-rest g l = record {
  served : ServedSoFar g.S.Store l.initial.hub l.conn l.piece l.rest (g.W.Write.contents l.initial.writer) (g.W.Write.contents l.writer) l.hub;
  is_open : is_open l.hub.connections l.conn ≡ true;
  configuration : l.hub.node.configuration ≡ l.initial.hub.node.configuration;
  onward : GoesOn g.S.Store l.initial.hub.node.store l.hub.node.store;
}

abbrev pub decreases-loop-rest : goal.decreases-loop-rest
decreases-loop-rest g l = length l.rest
