use Rattle.tables.proofs.Common.{Err, rules, ◌≡◌}
use Rattle.file_check.proofs.Going.{inspects_goes}
use Rattle.file_check.proofs.Inspecting.{inspects_nothing}
use Rattle.file_check.proofs.Walked.{documents_next}
use Rattle.file_check.proofs.layout.checking.check_documents.Goals as goal

pub returns-in_err-found : goal.returns-in_err-found
returns-in_err-found g c =
    let is : c.from_residual.result ≡ Err c.in_err-found.field-0.0 = search rules in
    inspects_nothing _ _ c.from_residual.result is c.in_err-found.ensures

pub returns : goal.returns
returns g c = inspects_goes (λ d fit. fit.schema_is) _ c.in_ok-found.found (λ d fit before found next. documents_next d.trees c.in_ok-found.found before found next) c.check_next.ensures c.in_ok-found.ensures
