use Rattle.std.proofs.Common.{◌≡◌, None, length}
use Rattle.store.specs.Calls.{GoesOn}
use Rattle.hub.specs.Service.{Serves, greatest_piece}
use Rattle.hub.proofs.service.serve_pieces.Given as goal

abbrev pub invariant-loop-number : goal.invariant-loop-number
invariant-loop-number g l = record {
  served : Serves g.S.Store l.conn None l._number
      (record { hub = l.initial.hub; input = g.R.Read.remaining l.initial.reader; output = g.W.Write.contents l.initial.writer })
      (record { hub = l.hub; input = g.R.Read.remaining l.reader; output = g.W.Write.contents l.writer });
  room : length l.room ≡ greatest_piece;
  configuration : l.hub.node.configuration ≡ l.initial.hub.node.configuration;
  onward : GoesOn g.S.Store l.initial.hub.node.store l.hub.node.store;
}
