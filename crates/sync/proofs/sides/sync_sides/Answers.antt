use Rattle.std.proofs.Common.{inl}
use Rattle.repl.specs.Asks.{ask_of, pass_of}
use Rattle.sync.proofs.Printing.{nothing_written, stands_in}
use Rattle.sync.proofs.Refusals.{sides_end_break_off}
use Rattle.sync.proofs.Turns.{on_err, stops_at_end}
use Rattle.sync.specs.Ending.{end_text}
use Rattle.sync.specs.Sides.{BreaksOff, HasTurn}
use Rattle.sync.proofs.sides.sync_sides.Goals as goal

pub returns-in_err-print_end-clause-early : goal.returns-in_err-print_end-clause-early
returns-in_err-print_end-clause-early g c = λ source target.
    on_err c.from_residual-in_err-print_end.result
    (inl (stops_at_end (HasTurn g.F.Side.answers g.T.Side.answers) (BreaksOff g.F.Side.answers g.F.Side.breaks_off g.T.Side.answers g.T.Side.breaks_off) (sides_end_break_off g.F.Side.answers g.F.Side.breaks_off g.T.Side.answers g.T.Side.breaks_off)
    (record { source = c.args.source.now; target = c.args.target.now; pass = pass_of c.args.pass.now })
    (record { source = c.play_to_end-end.new.source; target = c.play_to_end-end.new.target; pass = pass_of c.play_to_end-end.new.pass })
    (ask_of c.in_ok-end.end) (c.in_ok-end.ensures.ended source target)))

pub returns-in_err-print_end-clause-kept : goal.returns-in_err-print_end-clause-kept
returns-in_err-print_end-clause-kept g c =
    on_err c.from_residual-in_err-print_end.result
    (stands_in (g.W.Write.contents c.args.writer.now) (g.W.Write.contents c.print_end.new.writer) (end_text (ask_of c.in_ok-end.end)) c.in_err-print_end.field-0.0 c.in_err-print_end.ensures.err)

pub returns-in_err-print_end-clause-memory : goal.returns-in_err-print_end-clause-memory
returns-in_err-print_end-clause-memory g c = λ source target memory. (
  stops_at_end (HasTurn g.F.Side.answers g.T.Side.answers) (BreaksOff g.F.Side.answers g.F.Side.breaks_off g.T.Side.answers g.T.Side.breaks_off) (sides_end_break_off g.F.Side.answers g.F.Side.breaks_off g.T.Side.answers g.T.Side.breaks_off)
      (record { source = c.args.source.now; target = c.args.target.now; pass = pass_of c.args.pass.now })
      (record { source = c.play_to_end-end.new.source; target = c.play_to_end-end.new.target; pass = pass_of c.play_to_end-end.new.pass })
      (ask_of c.in_ok-end.end) (c.in_ok-end.ensures.ended source target),
  nothing_written (g.W.Write.contents c.args.writer.now) (g.W.Write.contents c.print_end.new.writer) (end_text (ask_of c.in_ok-end.end))
      c.from_residual-in_err-print_end.result c.in_err-print_end.field-0.0 c.from_residual-in_err-print_end.ensures.1 memory c.in_err-print_end.ensures.err,
)
