use Rattle.std.proofs.Common.{false, length, sym}
use Rattle.lab.proofs.JudgedLemmas.{judged_err, judged_memory, neither, world_judged}
use Rattle.lab.specs.Lines.{pass_said}
use Rattle.lab.specs.Playing.{fault_of_world}
use Rattle.lab.specs.Stages.{names_of}
use Rattle.lab.specs.Stopping.{can_start}
use Rattle.lab.proofs.running.Running.start_pass.Goals as goal

pub returns-in_err-name-clause-judged : goal.returns-in_err-name-clause-judged
returns-in_err-name-clause-judged g c = λ nodes.
    judged_memory false (can_start (names_of c.args.self.now) (pass_said c.args.words.now)) c.from_residual.result c.from_residual.ensures.1

pub returns-in_err-config-clause-judged : goal.returns-in_err-config-clause-judged
returns-in_err-config-clause-judged g c = λ nodes.
    judged_memory false (can_start (names_of c.args.self.now) (pass_said c.args.words.now)) c.from_residual-in_err-config.result c.from_residual-in_err-config.ensures.1

pub returns-in_err-value-clause-judged : goal.returns-in_err-value-clause-judged
returns-in_err-value-clause-judged g c = λ nodes.
    let can = can_start (names_of c.args.self.now) (pass_said c.args.words.now) in
    let fault = c.in_err-value.field-0.0 in
    judged_err false can (fault_of_world fault.kind) c.from_residual-in_err-value.result c.from_residual-in_err-value.ensures.1
    (world_judged can fault.kind (λ unknown. neither (length (names_of c.args.self.now).network.nodes) c.in-Some.from c.in-Some-value_of.to
    (nodes (pass_said c.args.words.now).source.node c.in-Some.from (sym (rw c.deref.ensures.value at c.in-Some.ensures)))
    (nodes (pass_said c.args.words.now).target.node c.in-Some-value_of.to (sym (rw c.deref-2.ensures.value at c.in-Some-value_of.ensures)))
    (c.in_err-value.ensures.unknown.0 unknown)))

pub returns-in_err-push-clause-judged : goal.returns-in_err-push-clause-judged
returns-in_err-push-clause-judged g c = λ nodes.
    judged_memory false (can_start (names_of c.args.self.now) (pass_said c.args.words.now)) c.from_residual-in_err-push.result c.from_residual-in_err-push.ensures.1
