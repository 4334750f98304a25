use Rattle.std.proofs.Common.{None}
use Rattle.command_line.specs.Plan.{sync_of}
use Rattle.repl.specs.Asks.{ask_of}
use Rattle.sync.proofs.Batches.{early_untold}
use Rattle.sync.proofs.Printing.{nothing_written}
use Rattle.sync.proofs.Turns.{on_err}
use Rattle.sync.specs.Ending.{end_text}
use Rattle.sync.proofs.series.sync_series.Goals as goal

-- the passes came to their end, which was not told
pub returns-in_err-print_end-clause-early : goal.returns-in_err-print_end-clause-early
returns-in_err-print_end-clause-early g c = λ source target.
    on_err c.from_residual-in_err-print_end.result
    (early_untold g.F.Side.answers g.F.Side.breaks_off g.T.Side.answers g.T.Side.breaks_off (sync_of c.args.plan.now) 7
    (record { batch = c.args.plan.now.batch; is_from_start = c.args.plan.now.from_start }) None
    (record { source = c.args.source.now; target = c.args.target.now }) (ask_of c.in_ok-end.end)
    (record { source = c.play_series-end.new.source; target = c.play_series-end.new.target }) (c.in_ok-end.ensures.ended source target))

pub returns-in_err-print_end-clause-memory : goal.returns-in_err-print_end-clause-memory
returns-in_err-print_end-clause-memory g c = λ memory.
    nothing_written (g.W.Write.contents c.args.writer.now) (g.W.Write.contents c.print_end.new.writer) (end_text (ask_of c.in_ok-end.end))
    c.from_residual-in_err-print_end.result c.in_err-print_end.field-0.0 c.from_residual-in_err-print_end.ensures.1 memory c.in_err-print_end.ensures.err
