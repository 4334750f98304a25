use Rattle.tables.proofs.Common.{Err, Ok, ap, docs_tree, list_any, rules, ◌∙◌, ◌≡◌}
use Rattle.std.proofs.Common.{to_z-of_z, w64}
use Rattle.file_check.specs.Tables.{is_at_sequence}
use Rattle.file_check.proofs.Inspecting.{inspects_lost, inspects_nothing, inspects_so}
use Rattle.file_check.specs.declared.finding.CheckFault.TheVariants as fault
use Rattle.file_check.proofs.Owned.{judged_database}
use Rattle.file_check.proofs.layout.databases.check_database.Goals as goal

pub returns-in_err-there : goal.returns-in_err-there
returns-in_err-there g c =
    let is : c.from_residual.result ≡ Err c.in_err-there.field-0.0 = search rules in
    inspects_nothing _ _ c.from_residual.result is c.in_err-there.ensures

pub returns-in_err-judge_ended : goal.returns-in_err-judge_ended
returns-in_err-judge_ended g c =
    let is : c.from_residual-in_err-judge_ended.result ≡ Err fault.Memory = search rules in
    inspects_lost _ c.from_residual-in_err-judge_ended.result is c.in_ok-there.ensures

pub returns : goal.returns
returns g c =
    let number = to_z-of_z {w = w64} {z = c.whole_or_zero.result} (record { sfits = c.whole_or_zero.type_inv }) ∙ c.whole_or_zero.ensures in
    let sequence = to_z-of_z {w = w64} {z = c.whole_or_zero-2.result} (record { sfits = c.whole_or_zero-2.type_inv }) ∙ c.whole_or_zero-2.ensures in
    inspects_so _ c.in_ok-there.there c.in_ok-judge_ended.field-0
    (λ trees is. judged_database trees c.args.row.now c.in_ok-there.there (is ∙ (λ i. list_any (is_at_sequence (number i) (sequence i)) (trees docs_tree))) (Ok c.in_ok-judge_ended.field-0) c.in_ok-judge_ended.ensures) c.in_ok-there.ensures
