use Rattle.std.proofs.Common.{ap, Err}
use Rattle.std.specs.FinMap as finite
use Rattle.write.specs.Admission.{unless_denied}
use Rattle.write.specs.declared.fault.WriteFault.TheVariants.{Conflict}
use Rattle.write.proofs.Outcomes.{unnamed_refused}
use Rattle.write.proofs.deleting.judge_unnamed_deletion.Goals as goal

pub returns-clause-refused : goal.returns-clause-refused
returns-clause-refused g c = λ honest own.
    unnamed_refused c.args.caller.now c.args.db.now c.args.id.now c.in-Ok.security (finite.get (g.S.Store.contents c.args.store.now) c.args.db.now) c.find_design_rule.result Conflict
    (c.in-Ok.ensures.answer honest) c.find_design_rule.ensures (ap (λ o. unless_denied o (Err Conflict)) c.in-None.is)
