use Rattle.std.proofs.Common.{◌∙◌, [], Err, ap, inl, inr, refl, sym, true≢false}
use Rattle.std.proofs.KnownBytes.{Appends-nil}
use Rattle.command_line.specs.declared.fault.ProgramFault.TheVariants.{File, Memory}
use Rattle.repl.specs.Asks.{ask_of}
use Rattle.sync.proofs.Printing.{not_whole, nothing_written, same_fault, stands_in, told_fault, untold, unwritten_fault}
use Rattle.sync.proofs.Refusals.{end_breaks_off}
use Rattle.sync.proofs.Turns.{on_err, stops_at_end}
use Rattle.sync.specs.Ending.{end_text}
use Rattle.sync.specs.Passing.{HasTurn, BreaksOff}
use Rattle.sync.proofs.passing.watch_pass.Goals as goal

pub returns-in_err-end-clause-early : goal.returns-in_err-end-clause-early
returns-in_err-end-clause-early g c = λ honest. on_err c.from_residual.result (c.in_err-end.ensures.early honest)

pub returns-in_err-end-clause-kept : goal.returns-in_err-end-clause-kept
returns-in_err-end-clause-kept g c = on_err c.from_residual.result ([], Appends-nil (g.W.Write.contents c.args.writer.now))

pub returns-in_err-end-clause-faults : goal.returns-in_err-end-clause-faults
returns-in_err-end-clause-faults g c = told_fault c.from_residual.result c.in_err-end.field-0.0 c.from_residual.ensures.1 c.in_err-end.ensures.faults

pub returns-in_err-end-clause-memory : goal.returns-in_err-end-clause-memory
returns-in_err-end-clause-memory g c = λ honest memory.
    (c.in_err-end.ensures.memory honest (ap Err (same_fault c.from_residual.result c.in_err-end.field-0.0 Memory c.from_residual.ensures.1 memory)), refl)

pub returns-in_err-end-clause-file : goal.returns-in_err-end-clause-file
returns-in_err-end-clause-file g c = λ honest file.
    untold (HasTurn g.S.Store c.args.repl) c.args.world.now c.play_to_end-end.new.world (g.W.Write.contents c.args.writer.now)
    (c.in_err-end.ensures.file honest (ap Err (same_fault c.from_residual.result c.in_err-end.field-0.0 File c.from_residual.ensures.1 file)))

pub returns-in_err-print_end-clause-early : goal.returns-in_err-print_end-clause-early
returns-in_err-print_end-clause-early g c = λ honest.
    on_err c.from_residual-in_err-print_end.result
    (inl (stops_at_end (HasTurn g.S.Store c.args.repl) (BreaksOff g.S.Store c.args.repl) (end_breaks_off g.S.Store c.args.repl) c.args.world.now c.play_to_end-end.new.world
    (ask_of c.in_ok-end.end) (c.in_ok-end.ensures.ended honest)))

pub returns-in_err-print_end-clause-unknown : goal.returns-in_err-print_end-clause-unknown
returns-in_err-print_end-clause-unknown g c = λ never. absurd (true≢false (sym c.in_ok-end.ensures.known ∙ never))

pub returns-in_err-print_end-clause-faults : goal.returns-in_err-print_end-clause-faults
returns-in_err-print_end-clause-faults g c =
    told_fault c.from_residual-in_err-print_end.result c.in_err-print_end.field-0.0 c.from_residual-in_err-print_end.ensures.1
    (unwritten_fault (g.W.Write.contents c.args.writer.now) (g.W.Write.contents c.print_end.new.writer) (end_text (ask_of c.in_ok-end.end)) c.in_err-print_end.field-0.0 c.in_err-print_end.ensures.err)

pub returns-in_err-print_end-clause-kept : goal.returns-in_err-print_end-clause-kept
returns-in_err-print_end-clause-kept g c =
    on_err c.from_residual-in_err-print_end.result
    (stands_in (g.W.Write.contents c.args.writer.now) (g.W.Write.contents c.print_end.new.writer) (end_text (ask_of c.in_ok-end.end)) c.in_err-print_end.field-0.0 c.in_err-print_end.ensures.err)

pub returns-in_err-print_end-clause-memory : goal.returns-in_err-print_end-clause-memory
returns-in_err-print_end-clause-memory g c = λ honest memory. (
  stops_at_end (HasTurn g.S.Store c.args.repl) (BreaksOff g.S.Store c.args.repl) (end_breaks_off g.S.Store c.args.repl) c.args.world.now c.play_to_end-end.new.world
      (ask_of c.in_ok-end.end) (c.in_ok-end.ensures.ended honest),
  nothing_written (g.W.Write.contents c.args.writer.now) (g.W.Write.contents c.print_end.new.writer) (end_text (ask_of c.in_ok-end.end))
      c.from_residual-in_err-print_end.result c.in_err-print_end.field-0.0 c.from_residual-in_err-print_end.ensures.1 memory c.in_err-print_end.ensures.err,
)

pub returns-in_err-print_end-clause-file : goal.returns-in_err-print_end-clause-file
returns-in_err-print_end-clause-file g c = λ honest file.
    inr (inr (
      ask_of c.in_ok-end.end,
      c.in_ok-end.ensures.ended honest,
      not_whole (g.W.Write.contents c.args.writer.now) (g.W.Write.contents c.print_end.new.writer)
          (end_text (ask_of c.in_ok-end.end)) c.from_residual-in_err-print_end.result c.in_err-print_end.field-0.0 c.from_residual-in_err-print_end.ensures.1 file c.in_err-print_end.ensures.err,
    ))
