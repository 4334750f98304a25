use Rattle.std.proofs.Common.{◌≡◌, length}
use Rattle.world.specs.Network.{AreHonest}
use Rattle.sync.specs.Passing.{HasTurn}
use Rattle.sync.specs.Turns.{GoesThrough}
use Rattle.sync.proofs.passing.play_to_end.Given as goal

abbrev pub invariant-loop-turn : goal.invariant-loop-turn
invariant-loop-turn g l = record {
  goes : AreHonest g.S.Store l.world.nodes → GoesThrough (HasTurn g.S.Store l.repl) l._turn l.fn.world l.world;
  many : length l.world.transfers ≡ length l.fn.world.transfers;
}
