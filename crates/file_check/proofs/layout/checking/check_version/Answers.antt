use Rattle.tables.proofs.Common.{Err, rules, ◌≡◌}
use Rattle.file_check.proofs.Inspecting.{inspects_fit, inspects_nothing, inspects_of, inspects_refused}
use Rattle.file_check.proofs.Walked.{version_found}
use Rattle.file_check.specs.declared.finding.CheckFault.TheVariants as fault
use Rattle.file_check.proofs.layout.checking.check_version.Goals as goal

pub returns-in_err-rows : goal.returns-in_err-rows
returns-in_err-rows g c =
    let is : c.from_residual.result ≡ Err (fault.Sqlite c.in_err-rows.field-0.0) = search rules in
    inspects_nothing _ _ c.from_residual.result is (inspects_refused c.in_err-rows.ensures.reads c.in_err-rows.ensures.failed)

pub returns : goal.returns
returns g c =
    inspects_fit _ c.in_ok-rows.rows _
    (λ d fit same. version_found d fit c.in_ok-rows.rows.items c.deref.result.now c.deref.ensures.value same c.judge_version.result c.judge_version.ensures) (inspects_of c.in_ok-rows.ensures.reads)
