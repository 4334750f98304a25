use Rattle.std.proofs.Common.{Err, None, Some, rules, ◌≡◌}
use Rattle.file_check.proofs.CheckSteps.{checks_stop}
use Rattle.file_check.proofs.CheckedIndexes.{behind_declarations, behind_documents, document_found}
use Rattle.file_check.proofs.indexes.check_indexes.Goals as goal

pub returns-in_err-finding-2 : goal.returns-in_err-finding-2
returns-in_err-finding-2 g c =
    let e = c.in_err-finding-2.field-0.0 in
    let is : c.from_residual-in_err-finding-2.result ≡ Err e = search rules in
    let none : c.in_ok-finding.field-0 ≡ None = search rules in
    checks_stop g.S.Store e c.from_residual-in_err-finding-2.result is (behind_declarations g.S.Store c.in_ok-finding.field-0 c.in_ok-finding.ensures none c.in_err-finding-2.ensures)

pub returns-in-Some-2 : goal.returns-in-Some-2
returns-in-Some-2 g c =
    let none : c.in_ok-finding.field-0 ≡ None = search rules in
    let found : c.in_ok-finding-2.field-0 ≡ Some c.in-Some-2.finding = search rules in
    document_found g.S.Store c.in_ok-finding-2.field-0 c.in-Some-2.finding (behind_declarations g.S.Store c.in_ok-finding.field-0 c.in_ok-finding.ensures none c.in_ok-finding-2.ensures) found

pub returns : goal.returns
returns g c =
    let none : c.in_ok-finding.field-0 ≡ None = search rules in
    let also : c.in_ok-finding-2.field-0 ≡ None = search rules in
    behind_documents g.S.Store c.in_ok-finding-2.field-0 (behind_declarations g.S.Store c.in_ok-finding.field-0 c.in_ok-finding.ensures none c.in_ok-finding-2.ensures) also c.check_rows-3.ensures
