use Rattle.std.proofs.Common.{of_z, to_z, to_z-of_z, w64}
use Rattle.tables.proofs.Common.{Err, None, Some, rules, ◌∙◌, ◌≡◌}
use Rattle.file_check.specs.declared.indexes.step.Step.TheVariants.{Found, Next}
use Rattle.file_check.proofs.Going.{goes_nothing, goes_so}
use Rattle.file_check.proofs.TableWalks.{Steps, step_found, step_next}
use Rattle.file_check.proofs.layout.checking.step_over.Goals as goal

pub returns-in_err-found : goal.returns-in_err-found
returns-in_err-found g c =
    let e = c.in_err-found.field-0.0 in
    let is : c.from_residual.result ≡ Err e = search rules in
    goes_nothing _ e c.from_residual.result is c.in_err-found.ensures

pub returns-in-Some : goal.returns-in-Some
returns-in-Some g c =
    let some : c.in_ok-found.found ≡ Some c.in-Some.wrong = search rules in
    goes_so (Steps c.args.table c.args.row.now) c.in_ok-found.found (Found c.find_wrong.result)
    (λ trees. step_found c.args.table c.args.row.now trees c.in_ok-found.found c.in-Some.wrong c.find_wrong.result some c.find_wrong.ensures.of_table c.find_wrong.ensures.numbered) c.in_ok-found.ensures

pub returns-in-None : goal.returns-in-None
returns-in-None g c =
    let none : c.in_ok-found.found ≡ None = search rules in
    let number = to_z-of_z {w = w64} {z = c.whole_or_zero.result} (record { sfits = c.whole_or_zero.type_inv }) ∙ c.whole_or_zero.ensures in
    goes_so (Steps c.args.table c.args.row.now) c.in_ok-found.found (Next (to_z w64 (of_z w64 c.whole_or_zero.result)))
    (λ trees. step_next c.args.table c.args.row.now trees c.in_ok-found.found (to_z w64 (of_z w64 c.whole_or_zero.result)) none number) c.in_ok-found.ensures
