use Rattle.repl.specs.Asks.{pass_of}
use Rattle.sync.specs.Sides.{HasTurn}
use Rattle.sync.specs.Turns.{GoesThrough}
use Rattle.sync.proofs.sides.play_to_end.Given as goal

abbrev pub invariant-loop-turn : goal.invariant-loop-turn
invariant-loop-turn g l = record {
  goes : g.F.Side.is_honest l.source → g.T.Side.is_honest l.target
      → GoesThrough (HasTurn g.F.Side.answers g.T.Side.answers) l._turn (record { source = l.fn.source; target = l.fn.target; pass = pass_of l.fn.pass })
      (record { source = l.source; target = l.target; pass = pass_of l.pass });
  source : g.F.Side.is_honest l.source → g.F.Side.is_honest l.fn.source;
  target : g.T.Side.is_honest l.target → g.T.Side.is_honest l.fn.target;
}
