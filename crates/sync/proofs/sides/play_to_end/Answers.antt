use Rattle.repl.specs.Asks.{pass_of}
use Rattle.sync.proofs.Turns.{by_memory, comes_to_end, goes_further, runs_out, stops_in_turn}
use Rattle.sync.specs.Sides.{BreaksOff, HasTurn}
use Rattle.sync.proofs.sides.play_to_end.Goals as goal

pub returns-in_err-end-clause-early : goal.returns-in_err-end-clause-early
returns-in_err-end-clause-early g c = λ source target.
    by_memory (HasTurn g.F.Side.answers g.T.Side.answers) (BreaksOff g.F.Side.answers g.F.Side.breaks_off g.T.Side.answers g.T.Side.breaks_off) c.from_residual.result
    (record { source = c.args.source.now; target = c.args.target.now; pass = pass_of c.args.pass.now })
    (record { source = c.take_turn.new.source; target = c.take_turn.new.target; pass = pass_of c.take_turn.new.pass }) c.from_residual.ensures.1
    (stops_in_turn (HasTurn g.F.Side.answers g.T.Side.answers) (BreaksOff g.F.Side.answers g.F.Side.breaks_off g.T.Side.answers g.T.Side.breaks_off) c.loop-turn._turn
    (record { source = c.args.source.now; target = c.args.target.now; pass = pass_of c.args.pass.now })
    (record { source = c.loop-turn.source; target = c.loop-turn.target; pass = pass_of c.loop-turn.pass })
    (record { source = c.take_turn.new.source; target = c.take_turn.new.target; pass = pass_of c.take_turn.new.pass })
    c.loop-turn-test.true (c.loop-turn.invariant.goes (c.in_err-end.ensures.source source) (c.in_err-end.ensures.target target)) (c.in_err-end.ensures.early source target))

pub returns-in-Some-clause-ended : goal.returns-in-Some-clause-ended
returns-in-Some-clause-ended g c = λ source target.
    comes_to_end (HasTurn g.F.Side.answers g.T.Side.answers) c.loop-turn._turn (record { source = c.args.source.now; target = c.args.target.now; pass = pass_of c.args.pass.now })
    (record { source = c.loop-turn.source; target = c.loop-turn.target; pass = pass_of c.loop-turn.pass })
    (record { source = c.take_turn.new.source; target = c.take_turn.new.target; pass = pass_of c.take_turn.new.pass })
    c.in_ok-end.field-0 c.in-Some.end c.loop-turn-test.true (c.loop-turn.invariant.goes (c.in_ok-end.ensures.source source) (c.in_ok-end.ensures.target target))
    (c.in_ok-end.ensures.turn source target) c.in-Some.is

pub loop-turn-preserved : goal.loop-turn-preserved
loop-turn-preserved g c = record {
  goes = λ source target.
      goes_further (HasTurn g.F.Side.answers g.T.Side.answers) c.loop-turn._turn (record { source = c.args.source.now; target = c.args.target.now; pass = pass_of c.args.pass.now })
      (record { source = c.loop-turn.source; target = c.loop-turn.target; pass = pass_of c.loop-turn.pass })
      (record { source = c.take_turn.new.source; target = c.take_turn.new.target; pass = pass_of c.take_turn.new.pass })
      c.in_ok-end.field-0 (c.loop-turn.invariant.goes (c.in_ok-end.ensures.source source) (c.in_ok-end.ensures.target target)) (c.in_ok-end.ensures.turn source target) c.in_default.is;
  source = λ source. c.loop-turn.invariant.source (c.in_ok-end.ensures.source source);
  target = λ target. c.loop-turn.invariant.target (c.in_ok-end.ensures.target target);
}

pub returns-clause-early : goal.returns-clause-early
returns-clause-early g c = λ source target.
    runs_out (HasTurn g.F.Side.answers g.T.Side.answers) c.loop-turn._turn (record { source = c.args.source.now; target = c.args.target.now; pass = pass_of c.args.pass.now })
    (record { source = c.loop-turn.source; target = c.loop-turn.target; pass = pass_of c.loop-turn.pass }) c.loop-turn.auto._turn-end c.loop-turn-test.false (c.loop-turn.invariant.goes source target)
