use Rattle.std.proofs.Common.{◌-◌, None, option_map}
use Rattle.command_line.specs.Plan.{sync_of}
use Rattle.repl.specs.Asks.{report_of}
use Rattle.repl.specs.Passes.{Asked}
use Rattle.sync.specs.Series.{EndsSeriesEarly, IsSeries, Pair}
use Rattle.sync.proofs.series.play_series.Given as goal

-- what the passes that are left lead to is what all of them lead to, whether they come to their end or end early
abbrev pub invariant-loop-pass : goal.invariant-loop-pass
invariant-loop-pass g l = record {
  goes : g.F.Side.is_honest l.source → g.T.Side.is_honest l.target → (end : Asked) (after : Pair g.row.F.Denot g.row.T.Denot)
      → IsSeries g.F.Side.answers g.T.Side.answers (sync_of l.plan) (7 - l._pass) l.manner (option_map report_of l.earlier) (record { source = l.source; target = l.target }) end after
      → IsSeries g.F.Side.answers g.T.Side.answers (sync_of l.plan) 7 (record { batch = l.plan.batch; is_from_start = l.plan.from_start }) None (record { source = l.fn.source; target = l.fn.target }) end after;
  early : g.F.Side.is_honest l.source → g.T.Side.is_honest l.target → (after : Pair g.row.F.Denot g.row.T.Denot)
      → EndsSeriesEarly g.F.Side.answers g.F.Side.breaks_off g.T.Side.answers g.T.Side.breaks_off (sync_of l.plan) (7 - l._pass) l.manner (option_map report_of l.earlier) (record { source = l.source; target = l.target }) after
      → EndsSeriesEarly g.F.Side.answers g.F.Side.breaks_off g.T.Side.answers g.T.Side.breaks_off (sync_of l.plan) 7 (record { batch = l.plan.batch; is_from_start = l.plan.from_start }) None (record { source = l.fn.source; target = l.fn.target }) after;
  source : g.F.Side.is_honest l.source → g.F.Side.is_honest l.fn.source;
  target : g.T.Side.is_honest l.target → g.T.Side.is_honest l.fn.target;
}
