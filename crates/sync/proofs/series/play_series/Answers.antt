use Rattle.std.proofs.Common.{◌∙◌, ◌-◌, ap, option_map}
use Rattle.command_line.specs.Plan.{sync_of}
use Rattle.repl.specs.Asks.{ask_of, pass_of, report_of}
use Rattle.repl.specs.Passes.{first_pass}
use Rattle.sync.specs.Series.{narrowed}
use Rattle.sync.specs.Sides.{BreaksOff, HasTurn}
use Rattle.sync.proofs.Batches.{by_fault, early_end, early_now, early_pass, early_step, series_last, series_step}
use Rattle.sync.proofs.Turns.{on_err}
use Rattle.sync.proofs.series.play_series.Goals as goal

pub returns-in-Err-clause-ended : goal.returns-in-Err-clause-ended
returns-in-Err-clause-ended g c = λ source target.
    c.loop-pass.invariant.goes (c.in_ok-end.ensures.source source) (c.in_ok-end.ensures.target target) (ask_of c.in-Err.end)
    (record { source = c.play_to_end.new.source; target = c.play_to_end.new.target })
    (series_last g.F.Side.answers g.T.Side.answers (sync_of c.args.plan.now) c.loop-pass._pass c.loop-pass.manner (option_map report_of c.loop-pass.earlier)
    (record { source = c.loop-pass.source; target = c.loop-pass.target }) (ask_of c.in_ok-end.end) (ask_of c.in_ok-end-2.end) (ask_of c.in-Err.end) (pass_of c.in_ok-pass.pass)
    (record { source = c.play_to_end.new.source; target = c.play_to_end.new.target; pass = pass_of c.play_to_end.new.pass }) c.loop-pass-test.true
    (c.in_ok-pass.ensures ∙ ap first_pass c.in_ok-config.ensures) (c.in_ok-end.ensures.ended source target) c.in_ok-end-2.ensures c.in-Err.ensures.ends.0 c.in-Err.ensures.ends.1)

pub loop-pass-preserved : goal.loop-pass-preserved
loop-pass-preserved g c = record {
  goes = λ source target end after rest.
      c.loop-pass.invariant.goes (c.in_ok-end.ensures.source source) (c.in_ok-end.ensures.target target) end after
      (series_step g.F.Side.answers g.T.Side.answers (sync_of c.args.plan.now) c.loop-pass._pass c.loop-pass.manner c.narrow-manner.result (option_map report_of c.loop-pass.earlier)
      (record { source = c.loop-pass.source; target = c.loop-pass.target }) (ask_of c.in_ok-end.end) (ask_of c.in_ok-end-2.end) (pass_of c.in_ok-pass.pass)
      (record { source = c.play_to_end.new.source; target = c.play_to_end.new.target; pass = pass_of c.play_to_end.new.pass }) (report_of c.in-Ok.report) c.loop-pass-test.true
      (c.in_ok-pass.ensures ∙ ap first_pass c.in_ok-config.ensures) (c.in_ok-end.ensures.ended source target) c.in_ok-end-2.ensures c.in-Ok.ensures.goes
      (c.narrow-manner.ensures ∙ ap (narrowed c.loop-pass.manner) c.checkpoint_sequence.ensures) end after rest);
  early = λ source target after rest.
      c.loop-pass.invariant.early (c.in_ok-end.ensures.source source) (c.in_ok-end.ensures.target target) after
      (early_step g.F.Side.answers g.F.Side.breaks_off g.T.Side.answers g.T.Side.breaks_off (sync_of c.args.plan.now) c.loop-pass._pass c.loop-pass.manner (option_map report_of c.loop-pass.earlier)
      (record { source = c.loop-pass.source; target = c.loop-pass.target }) (pass_of c.in_ok-pass.pass)
      (record { source = c.play_to_end.new.source; target = c.play_to_end.new.target; pass = pass_of c.play_to_end.new.pass }) c.loop-pass-test.true
      (c.in_ok-pass.ensures ∙ ap first_pass c.in_ok-config.ensures) c.narrow-manner.result (ask_of c.in_ok-end.end) (ask_of c.in_ok-end-2.end) (report_of c.in-Ok.report)
      (c.in_ok-end.ensures.ended source target) c.in_ok-end-2.ensures c.in-Ok.ensures.goes
      (c.narrow-manner.ensures ∙ ap (narrowed c.loop-pass.manner) c.checkpoint_sequence.ensures) after rest);
  source = λ source. c.loop-pass.invariant.source (c.in_ok-end.ensures.source source);
  target = λ target. c.loop-pass.invariant.target (c.in_ok-end.ensures.target target);
}

-- a pass that ended early ends the series early
pub returns-in_err-end-clause-early : goal.returns-in_err-end-clause-early
returns-in_err-end-clause-early g c = λ source target.
    on_err c.from_residual-in_err-end.result
    (c.loop-pass.invariant.early (c.in_err-end.ensures.source source) (c.in_err-end.ensures.target target) (record { source = c.play_to_end.new.source; target = c.play_to_end.new.target })
    (early_pass g.F.Side.answers g.F.Side.breaks_off g.T.Side.answers g.T.Side.breaks_off (sync_of c.args.plan.now) c.loop-pass._pass c.loop-pass.manner (option_map report_of c.loop-pass.earlier)
    (record { source = c.loop-pass.source; target = c.loop-pass.target }) (pass_of c.in_ok-pass.pass)
    (record { source = c.play_to_end.new.source; target = c.play_to_end.new.target; pass = pass_of c.play_to_end.new.pass }) c.loop-pass-test.true
    (c.in_ok-pass.ensures ∙ ap first_pass c.in_ok-config.ensures)
    (by_fault (HasTurn g.F.Side.answers g.T.Side.answers) (BreaksOff g.F.Side.answers g.F.Side.breaks_off g.T.Side.answers g.T.Side.breaks_off)
    (record { source = c.loop-pass.source; target = c.loop-pass.target; pass = pass_of c.in_ok-pass.pass })
    (record { source = c.play_to_end.new.source; target = c.play_to_end.new.target; pass = pass_of c.play_to_end.new.pass }) c.in_err-end.field-0.0 (c.in_err-end.ensures.early source target))))

-- where no pass was made more, what was done before stands
pub returns-in_err-config-clause-early : goal.returns-in_err-config-clause-early
returns-in_err-config-clause-early g c = λ source target.
    on_err c.from_residual.result
    (c.loop-pass.invariant.early source target (record { source = c.loop-pass.source; target = c.loop-pass.target })
    (early_now g.F.Side.answers g.F.Side.breaks_off g.T.Side.answers g.T.Side.breaks_off (sync_of c.args.plan.now) (7 - c.loop-pass._pass) c.loop-pass.manner (option_map report_of c.loop-pass.earlier)
    (record { source = c.loop-pass.source; target = c.loop-pass.target })))

pub returns-in_err-pass-clause-early : goal.returns-in_err-pass-clause-early
returns-in_err-pass-clause-early g c = λ source target.
    on_err c.from_residual-in_err-pass.result
    (c.loop-pass.invariant.early source target (record { source = c.loop-pass.source; target = c.loop-pass.target })
    (early_now g.F.Side.answers g.F.Side.breaks_off g.T.Side.answers g.T.Side.breaks_off (sync_of c.args.plan.now) (7 - c.loop-pass._pass) c.loop-pass.manner (option_map report_of c.loop-pass.earlier)
    (record { source = c.loop-pass.source; target = c.loop-pass.target })))

-- a pass that came to its end, whose report could not be joined to the earlier one
pub returns-in_err-end-2-clause-early : goal.returns-in_err-end-2-clause-early
returns-in_err-end-2-clause-early g c = λ source target.
    on_err c.from_residual-in_err-end-2.result
    (c.loop-pass.invariant.early (c.in_ok-end.ensures.source source) (c.in_ok-end.ensures.target target) (record { source = c.play_to_end.new.source; target = c.play_to_end.new.target })
    (early_end g.F.Side.answers g.F.Side.breaks_off g.T.Side.answers g.T.Side.breaks_off (sync_of c.args.plan.now) c.loop-pass._pass c.loop-pass.manner (option_map report_of c.loop-pass.earlier)
    (record { source = c.loop-pass.source; target = c.loop-pass.target }) (pass_of c.in_ok-pass.pass)
    (record { source = c.play_to_end.new.source; target = c.play_to_end.new.target; pass = pass_of c.play_to_end.new.pass }) c.loop-pass-test.true
    (c.in_ok-pass.ensures ∙ ap first_pass c.in_ok-config.ensures) (ask_of c.in_ok-end.end) (c.in_ok-end.ensures.ended source target)))

-- no pass is left
pub returns-clause-early : goal.returns-clause-early
returns-clause-early g c = λ source target.
    c.loop-pass.invariant.early source target (record { source = c.loop-pass.source; target = c.loop-pass.target })
    (early_now g.F.Side.answers g.F.Side.breaks_off g.T.Side.answers g.T.Side.breaks_off (sync_of c.args.plan.now) (7 - c.loop-pass._pass) c.loop-pass.manner (option_map report_of c.loop-pass.earlier)
    (record { source = c.loop-pass.source; target = c.loop-pass.target }))
