use Rattle.std.proofs.Common.{ap, false, sym, refl}
use Rattle.std.specs.Prelude.{is_some}
use Rattle.lab.proofs.JudgedLemmas.{judged_known}
use Rattle.lab.proofs.PlayLemmas.{OnOk-then}
use Rattle.lab.specs.Naming.{value_named}
use Rattle.lab.specs.Stages.{names_of}
use Rattle.lab.proofs.running.Running.send.Goals as goal

pub returns-clause-sent : goal.returns-clause-sent
returns-clause-sent g c =
    OnOk-then c.send.result (c.send.ensures.sent (λ k d inside. g.met.S.LabStore.honest _))
    (λ q. (q.0, (c.in-Some.conn, sym (rw c.deref.ensures.value at c.in-Some.ensures), (c.send.new.world, q.1, refl)), q.2))

pub returns-clause-judged : goal.returns-clause-judged
returns-clause-judged g c =
    judged_known false (is_some (value_named c.args.name.now (names_of c.args.self.now).connections)) c.send.result c.send.ensures.faults
    (ap is_some (sym (rw c.deref.ensures.value at c.in-Some.ensures)))
