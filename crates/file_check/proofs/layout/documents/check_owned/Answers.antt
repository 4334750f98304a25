use Rattle.tables.proofs.Common.{Err, Ok, IsPermutation, filter, is_row_of_document, map, revs_tree, rules, shown_revision, subst₂, ℤ, List, ℕ, ◌∙◌, ◌≡◌}
use Rattle.std.proofs.Common.{to_z-of_z, w64}
use Rattle.file_check.proofs.Inspecting.{inspects_fit, inspects_lost, inspects_nothing, inspects_of, inspects_refused}
use Rattle.file_check.proofs.Owned.{judged_document}
use Rattle.file_check.specs.declared.finding.CheckFault.TheVariants as fault
use Rattle.file_check.proofs.layout.documents.check_owned.Goals as goal

pub returns-in_err-rows : goal.returns-in_err-rows
returns-in_err-rows g c =
    let is : c.from_residual.result ≡ Err (fault.Sqlite c.in_err-rows.field-0.0) = search rules in
    inspects_nothing _ _ c.from_residual.result is (inspects_refused c.in_err-rows.ensures.reads c.in_err-rows.ensures.failed)

pub returns-in_err-judge_whole : goal.returns-in_err-judge_whole
returns-in_err-judge_whole g c =
    let is : c.from_residual-in_err-judge_whole.result ≡ Err fault.Memory = search rules in
    inspects_lost _ c.from_residual-in_err-judge_whole.result is (inspects_of c.in_ok-rows.ensures.reads)

pub returns : goal.returns
returns g c =
    inspects_fit _ c.in_ok-rows.rows c.in_ok-judge_whole.field-0
    (λ d fit same. judged_document d c.args.row.now c.args.length c.in_ok-rows.rows.items fit
    (subst₂ (λ (n : ℤ) (i : List ℕ). IsPermutation (map shown_revision (filter (is_row_of_document n i) (d.trees revs_tree))) c.in_ok-rows.rows.items) (to_z-of_z {w = w64} {z = c.whole_or_zero.result} (record { sfits = c.whole_or_zero.type_inv }) ∙ c.whole_or_zero.ensures) c.bytes_at.ensures same)
    (Ok c.in_ok-judge_whole.field-0) c.in_ok-judge_whole.ensures) (inspects_of c.in_ok-rows.ensures.reads)
