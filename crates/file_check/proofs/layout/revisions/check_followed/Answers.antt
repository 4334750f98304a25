use Rattle.tables.proofs.Common.{Err, Ok, ap, db_of, revs_tree, rules, list_any, ◌∙◌, ◌≡◌}
use Rattle.file_check.specs.inner.Queries.{is_stored}
use Rattle.std.proofs.Common.{of_z, to_z, to_z-of_z, w64}
use Rattle.file_check.proofs.Inspecting.{inspects_lost, inspects_nothing, inspects_so}
use Rattle.file_check.specs.declared.finding.CheckFault.TheVariants as fault
use Rattle.file_check.proofs.RevisionForms.{judged_revision}
use Rattle.file_check.proofs.layout.revisions.check_followed.Goals as goal

pub returns-in_err-known : goal.returns-in_err-known
returns-in_err-known g c =
    let is : c.from_residual.result ≡ Err c.in_err-known.field-0.0 = search rules in
    inspects_nothing _ _ c.from_residual.result is c.in_err-known.ensures

pub returns-in_err-judge_revision : goal.returns-in_err-judge_revision
returns-in_err-judge_revision g c =
    let is : c.from_residual-in_err-judge_revision.result ≡ Err fault.Memory = search rules in
    inspects_lost _ c.from_residual-in_err-judge_revision.result is c.in_ok-known.ensures

pub returns : goal.returns
returns g c =
    let row = c.args.row.now in
    let number = c.number_before.result in
    let known = c.in_ok-known.known in
    inspects_so _ known c.in_ok-judge_revision.field-0
    (λ trees is. judged_revision trees row c.args.there known number c.number_before.ensures
    (is ∙ ap (λ m. list_any (is_stored (to_z w64 (of_z w64 c.whole_or_zero.result)) c.bytes_at.result.now m c.bytes_at-2.result.now) (trees revs_tree)) (to_z-of_z {w = w64} {z = number} (record { sfits = c.number_before.type_inv }))
    ∙ ap (λ n. list_any (is_stored n c.bytes_at.result.now number c.bytes_at-2.result.now) (trees revs_tree)) (to_z-of_z {w = w64} {z = c.whole_or_zero.result} (record { sfits = c.whole_or_zero.type_inv }) ∙ c.whole_or_zero.ensures)
    ∙ (λ i. list_any (is_stored (db_of row) (c.bytes_at.ensures i) number (c.bytes_at-2.ensures i)) (trees revs_tree)))
    (Ok c.in_ok-judge_revision.field-0) c.in_ok-judge_revision.ensures) c.in_ok-known.ensures
