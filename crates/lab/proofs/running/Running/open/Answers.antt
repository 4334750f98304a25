use Rattle.std.proofs.Common.{false, length, sym}
use Rattle.lab.proofs.JudgedLemmas.{judged_err, judged_memory, not_both, world_judged}
use Rattle.lab.specs.Playing.{fault_of_world}
use Rattle.lab.specs.Stages.{names_of}
use Rattle.lab.specs.Stopping.{can_open}
use Rattle.lab.proofs.running.Running.open.Goals as goal

pub returns-in_err-name-clause-judged : goal.returns-in_err-name-clause-judged
returns-in_err-name-clause-judged g c = λ nodes.
    judged_memory false (can_open (names_of c.args.self.now) c.args.node.now c.args.name.now) c.from_residual.result c.from_residual.ensures.1

pub returns-in_err-value-clause-judged : goal.returns-in_err-value-clause-judged
returns-in_err-value-clause-judged g c = λ nodes.
    let can = can_open (names_of c.args.self.now) c.args.node.now c.args.name.now in
    let fault = c.in_err-value.field-0.0 in
    judged_err false can (fault_of_world fault.kind) c.from_residual-in_err-value.result c.from_residual-in_err-value.ensures.1
    (world_judged can fault.kind (λ unknown. not_both (length (names_of c.args.self.now).network.nodes) c.in-Some.home (c.in_err-value.ensures.unknown.0 unknown)
    (nodes c.args.node.now c.in-Some.home (sym (rw c.deref.ensures.value at c.in-Some.ensures)))))

pub returns-in_err-push-clause-judged : goal.returns-in_err-push-clause-judged
returns-in_err-push-clause-judged g c = λ nodes.
    judged_memory false (can_open (names_of c.args.self.now) c.args.node.now c.args.name.now) c.from_residual-in_err-push.result c.from_residual-in_err-push.ensures.1
