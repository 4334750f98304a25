use Rattle.tables.proofs.Common.{Err, None, Some, rules, slice_get, ◌≡◌}
use Rattle.file_check.specs.declared.finding.CheckFault.TheVariants as fault
use Rattle.file_check.proofs.Going.{inspects_goes}
use Rattle.file_check.proofs.Inspecting.{inspects_fit, inspects_nothing, inspects_of, inspects_refused}
use Rattle.file_check.proofs.TableWalks.{Tells, next_looked, next_none}
use Rattle.file_check.proofs.layout.checking.check_next_row.Goals as goal

pub returns-in_err-rows : goal.returns-in_err-rows
returns-in_err-rows g c =
    let e = c.in_err-rows.field-0.0 in
    let is : c.from_residual.result ≡ Err (fault.Sqlite e) = search rules in
    inspects_nothing _ _ c.from_residual.result is (inspects_refused c.in_err-rows.ensures.reads c.in_err-rows.ensures.failed)

pub returns-in-Some : goal.returns-in-Some
returns-in-Some g c =
    let at : slice_get c.in_ok-rows.rows.items 0 ≡ Some c.in-Some.row.now = search rules in
    inspects_goes (λ d fit. fit.schema_is) (Tells c.args.table c.args.last.now) c.in_ok-rows.rows
    (λ d fit is. next_looked c.args.table c.args.last.now d fit c.in_ok-rows.rows.items is c.in-Some.row.now at) c.step_over.ensures (inspects_of c.in_ok-rows.ensures.reads)

pub returns : goal.returns
returns g c =
    let at : slice_get c.in_ok-rows.rows.items 0 ≡ None = search rules in
    inspects_fit (Tells c.args.table c.args.last.now) c.in_ok-rows.rows _ (λ d fit is. next_none c.args.table c.args.last.now d fit c.in_ok-rows.rows.items is at) (inspects_of c.in_ok-rows.ensures.reads)
