use Rattle.tables.proofs.Common.{Err, Ok, ap, rules, ◌∙◌, ◌≡◌}
use Rattle.std.specs.Prelude.{is_some}
use Rattle.std.proofs.Common.{to_z-of_z, w64}
use Rattle.file_check.proofs.Inspecting.{inspects_lost, inspects_nothing, inspects_so}
use Rattle.file_check.specs.inner.Queries.{length_at}
use Rattle.file_check.specs.declared.finding.CheckFault.TheVariants as fault
use Rattle.file_check.proofs.Owned.{judged_local}
use Rattle.file_check.proofs.layout.locals.check_local.Goals as goal

pub returns-in_err-length : goal.returns-in_err-length
returns-in_err-length g c =
    let is : c.from_residual.result ≡ Err c.in_err-length.field-0.0 = search rules in
    inspects_nothing _ _ c.from_residual.result is c.in_err-length.ensures

pub returns-in_err-judge_owned : goal.returns-in_err-judge_owned
returns-in_err-judge_owned g c =
    let is : c.from_residual-in_err-judge_owned.result ≡ Err fault.Memory = search rules in
    inspects_lost _ c.from_residual-in_err-judge_owned.result is c.in_ok-length.ensures

pub returns : goal.returns
returns g c =
    inspects_so _ c.in_ok-length.length c.in_ok-judge_owned.field-0
    (λ trees is. judged_local trees c.args.row.now c.is_some.result (c.is_some.ensures ∙ ap is_some is ∙ ap (λ n. is_some (length_at trees n)) (to_z-of_z {w = w64} {z = c.whole_or_zero.result} (record { sfits = c.whole_or_zero.type_inv }) ∙ c.whole_or_zero.ensures)) (Ok c.in_ok-judge_owned.field-0) c.in_ok-judge_owned.ensures) c.in_ok-length.ensures
