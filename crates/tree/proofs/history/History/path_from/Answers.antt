-- One more revision of the line, or its end.
use Rattle.std.proofs.Common.{◌-◌, refl, arith}
use Rattle.std.proofs.lemmas.Grind.{common_steps}
use Rattle.tree.specs.History.{path_from}
use Rattle.tree.proofs.history.History.path_from.Goals.{else-loop-step-test, then-loop-step-test+in_default, then-loop-step-test+in-Some+in_default-entry}
use Rattle.tree.proofs.Kept.{line_ended, line_pushed}
use Rattle.tree.proofs.history.History.path_from.Goals as goal

pub loop-step-preserved : goal.loop-step-preserved
loop-step-preserved c =
    line_pushed c.args.self.now c.args.rev.now.number c.loop-step._step c.in-Some.current c.in-Some-entry.entry.now c.loop-step.revs.items c.push.new.self.items _ _ _
    (omega arith) c.in-Some.is c.in-Some-entry.ensures refl c.in_ok-push.ensures.items c.loop-step.invariant

pub returns : goal.returns
returns c =
    let h = c.args.self.now in
    let n = c.args.rev.now.number in
    elim c.loop-step-test.branch [
      | else-loop-step-test w ↦ grind (arith, common_steps)
      | then-loop-step-test+in_default w ↦ grind (arith, common_steps)
      | then-loop-step-test+in-Some+in_default-entry w ↦ line_ended h (n - c.loop-step._step) w.in-Some.current c.loop-step.revs.items (path_from h n c.args.rev.now) c.loop-step.next w.in-Some.is w.in_default-entry.ensures c.loop-step.invariant
    ]
