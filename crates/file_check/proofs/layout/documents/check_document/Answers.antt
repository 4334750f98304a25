use Rattle.tables.proofs.Common.{Err, ap, rules, ◌∙◌, ◌≡◌}
use Rattle.file_check.specs.inner.Queries.{length_at}
use Rattle.std.proofs.Common.{to_z-of_z, w64}
use Rattle.file_check.proofs.Inspecting.{inspects_nothing, inspects_then}
use Rattle.file_check.proofs.layout.documents.check_document.Goals as goal

pub returns-in_err-length : goal.returns-in_err-length
returns-in_err-length g c =
    let is : c.from_residual.result ≡ Err c.in_err-length.field-0.0 = search rules in
    inspects_nothing _ _ c.from_residual.result is c.in_err-length.ensures

pub returns : goal.returns
returns g c =
    inspects_then (λ d fit. fit.schema_is) c.in_ok-length.length c.in_ok-length.ensures
    (λ trees is found next cells sound. next cells (is ∙ ap (length_at trees) (to_z-of_z {w = w64} {z = c.whole_or_zero.result} (record { sfits = c.whole_or_zero.type_inv }) ∙ c.whole_or_zero.ensures)) sound) c.check_owned.ensures
