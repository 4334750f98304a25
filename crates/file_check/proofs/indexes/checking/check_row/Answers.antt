use Rattle.std.proofs.Common.{Err, rules, ◌≡◌, ◌∙◌}
use Rattle.std.proofs.Common.{of_z, to_z, to_z-of_z, w64}
use Rattle.file_check.proofs.CheckSteps.{checks_stop}
use Rattle.file_check.proofs.WalkSteps.{row_sound, row_unsound}
use Rattle.file_check.proofs.indexes.checking.check_row.Goals as goal

pub returns-in_err-is_own : goal.returns-in_err-is_own
returns-in_err-is_own g c r =
    let e = c.in_err-is_own.field-0.0 in
    let is : c.from_residual.result ≡ Err e = search rules in
    checks_stop g.S.Store e c.from_residual.result is (c.in_err-is_own.ensures r)

pub returns-then-branch : goal.returns-then-branch
returns-then-branch g c r =
    row_sound g.S.Store c.args.table c.args.row.now r c.in_ok-is_own.field-0 (c.in_ok-is_own.ensures r) (to_z w64 (of_z w64 c.whole_in-number.result)) c.if-branch.true
    (λ m cell. to_z-of_z {w = w64} {z = c.whole_in-number.result} (record { sfits = c.whole_in-number.type_inv }) ∙ c.whole_in-number.ensures m cell)

pub returns : goal.returns
returns g c r =
    row_unsound g.S.Store c.args.table c.args.row.now r c.in_ok-is_own.field-0 (c.in_ok-is_own.ensures r) (record { table = c.table_of.result; key = to_z w64 (of_z w64 c.whole_in-number.result); wrong = c.wrong_of.result }) c.if-branch.false c.table_of.ensures
    (λ m cell. to_z-of_z {w = w64} {z = c.whole_in-number.result} (record { sfits = c.whole_in-number.type_inv }) ∙ c.whole_in-number.ensures m cell)
