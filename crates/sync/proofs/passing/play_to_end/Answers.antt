use Rattle.std.proofs.Common.{◌∙◌, Err, ap, inl, inr}
use Rattle.command_line.specs.declared.fault.ProgramFault.TheVariants.{File}
use Rattle.sync.proofs.Printing.{same_fault}
use Rattle.sync.proofs.Refusals.{never_started_before}
use Rattle.sync.proofs.Turns.{comes_to_end, goes_further, on_err, runs_out, stops_in_turn}
use Rattle.sync.specs.Passing.{HasTurn, BreaksOff}
use Rattle.sync.proofs.passing.play_to_end.Goals as goal

pub returns-in_err-end-clause-memory : goal.returns-in_err-end-clause-memory
returns-in_err-end-clause-memory g c = λ honest memory.
    stops_in_turn (HasTurn g.S.Store c.args.repl) (BreaksOff g.S.Store c.args.repl) c.loop-turn._turn c.args.world.now c.loop-turn.world c.take_turn.new.world c.loop-turn-test.true
    (c.loop-turn.invariant.goes (c.in_err-end.ensures.honest honest)) (c.in_err-end.ensures.early honest)

pub returns-in_err-end-clause-early : goal.returns-in_err-end-clause-early
returns-in_err-end-clause-early g c = λ honest.
    on_err c.from_residual.result
    (inl (stops_in_turn (HasTurn g.S.Store c.args.repl) (BreaksOff g.S.Store c.args.repl) c.loop-turn._turn c.args.world.now c.loop-turn.world c.take_turn.new.world c.loop-turn-test.true
    (c.loop-turn.invariant.goes (c.in_err-end.ensures.honest honest)) (c.in_err-end.ensures.early honest)))

pub returns-in_err-end-clause-file : goal.returns-in_err-end-clause-file
returns-in_err-end-clause-file g c = λ honest file.
    inl (never_started_before c.args.world.now.transfers c.loop-turn.world.transfers c.args.repl c.loop-turn.invariant.many
    (c.in_err-end.ensures.file (ap Err (same_fault c.from_residual.result c.in_err-end.field-0.0 File c.from_residual.ensures.1 file))))

pub returns-in-Some-clause-ended : goal.returns-in-Some-clause-ended
returns-in-Some-clause-ended g c = λ honest.
    comes_to_end (HasTurn g.S.Store c.args.repl) c.loop-turn._turn c.args.world.now c.loop-turn.world c.take_turn.new.world c.in_ok-end.field-0 c.in-Some.end c.loop-turn-test.true
    (c.loop-turn.invariant.goes (c.in_ok-end.ensures.honest honest)) (c.in_ok-end.ensures.turn honest) c.in-Some.is

pub loop-turn-preserved : goal.loop-turn-preserved
loop-turn-preserved g c = record {
  goes = λ honest.
      goes_further (HasTurn g.S.Store c.args.repl) c.loop-turn._turn c.args.world.now c.loop-turn.world c.take_turn.new.world c.in_ok-end.field-0
      (c.loop-turn.invariant.goes (c.in_ok-end.ensures.honest honest)) (c.in_ok-end.ensures.turn honest) c.in_default.is;
  many = c.in_ok-end.ensures.many ∙ c.loop-turn.invariant.many;
}

pub returns-clause-early : goal.returns-clause-early
returns-clause-early g c = λ honest.
    inr (runs_out (HasTurn g.S.Store c.args.repl) c.loop-turn._turn c.args.world.now c.loop-turn.world c.loop-turn.auto._turn-end c.loop-turn-test.false (c.loop-turn.invariant.goes honest))

pub returns-clause-file : goal.returns-clause-file
returns-clause-file g c = λ honest file.
    inr (runs_out (HasTurn g.S.Store c.args.repl) c.loop-turn._turn c.args.world.now c.loop-turn.world c.loop-turn.auto._turn-end c.loop-turn-test.false (c.loop-turn.invariant.goes honest))
