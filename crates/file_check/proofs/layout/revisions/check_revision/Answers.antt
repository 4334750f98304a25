use Rattle.tables.proofs.Common.{Err, ap, db_of, docs_tree, is_row_of_document, list_any, rules, ◌∙◌, ◌≡◌}
use Rattle.std.proofs.Common.{to_z-of_z, w64}
use Rattle.file_check.proofs.Inspecting.{inspects_nothing, inspects_then}
use Rattle.file_check.proofs.layout.revisions.check_revision.Goals as goal

pub returns-in_err-there : goal.returns-in_err-there
returns-in_err-there g c =
    let is : c.from_residual.result ≡ Err c.in_err-there.field-0.0 = search rules in
    inspects_nothing _ _ c.from_residual.result is c.in_err-there.ensures

pub returns : goal.returns
returns g c =
    let row = c.args.row.now in
    inspects_then (λ d fit. fit.schema_is) c.in_ok-there.there c.in_ok-there.ensures
    (λ trees is found next cells. next cells
    (is ∙ ap (λ n. list_any (is_row_of_document n c.bytes_at.result.now) (trees docs_tree)) (to_z-of_z {w = w64} {z = c.whole_or_zero.result} (record { sfits = c.whole_or_zero.type_inv }) ∙ c.whole_or_zero.ensures) ∙ ap (λ i. list_any (is_row_of_document (db_of row) i) (trees docs_tree)) c.bytes_at.ensures)) c.check_followed.ensures
