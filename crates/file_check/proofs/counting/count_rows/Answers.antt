use Rattle.tables.proofs.Common.{Err, rules, ◌≡◌}
use Rattle.file_check.proofs.Inspecting.{inspects_both, inspects_nothing, inspects_so}
use Rattle.file_check.specs.Counting.{CountsRows}
use Rattle.file_check.proofs.counting.count_rows.Goals as goal

pub returns-in_err-databases : goal.returns-in_err-databases
returns-in_err-databases g c =
    let is : c.from_residual.result ≡ Err c.in_err-databases.field-0.0 = search rules in
    inspects_nothing _ _ c.from_residual.result is c.in_err-databases.ensures

pub returns-in_err-documents : goal.returns-in_err-documents
returns-in_err-documents g c =
    let is : c.from_residual-in_err-documents.result ≡ Err c.in_err-documents.field-0.0 = search rules in
    inspects_nothing _ _ c.from_residual-in_err-documents.result is (inspects_both (λ d fit. fit) c.in_ok-databases.databases c.in_ok-databases.ensures c.in_err-documents.ensures)

pub returns-in_err-revisions : goal.returns-in_err-revisions
returns-in_err-revisions g c =
    let is : c.from_residual-in_err-revisions.result ≡ Err c.in_err-revisions.field-0.0 = search rules in
    inspects_nothing _ _ c.from_residual-in_err-revisions.result is (inspects_both (λ d fit. fit) c.in_ok-documents.documents (inspects_both (λ d fit. fit) c.in_ok-databases.databases c.in_ok-databases.ensures c.in_ok-documents.ensures) c.in_err-revisions.ensures)

pub returns-in_err-locals : goal.returns-in_err-locals
returns-in_err-locals g c =
    let is : c.from_residual-in_err-locals.result ≡ Err c.in_err-locals.field-0.0 = search rules in
    inspects_nothing _ _ c.from_residual-in_err-locals.result is (inspects_both (λ d fit. fit) c.in_ok-revisions.revisions (inspects_both (λ d fit. fit) c.in_ok-documents.documents (inspects_both (λ d fit. fit) c.in_ok-databases.databases c.in_ok-databases.ensures c.in_ok-documents.ensures) c.in_ok-revisions.ensures) c.in_err-locals.ensures)

pub returns-in_err-indexes : goal.returns-in_err-indexes
returns-in_err-indexes g c =
    let is : c.from_residual-in_err-indexes.result ≡ Err c.in_err-indexes.field-0.0 = search rules in
    inspects_nothing _ _ c.from_residual-in_err-indexes.result is (inspects_both (λ d fit. fit) c.in_ok-locals.locals (inspects_both (λ d fit. fit) c.in_ok-revisions.revisions (inspects_both (λ d fit. fit) c.in_ok-documents.documents (inspects_both (λ d fit. fit) c.in_ok-databases.databases c.in_ok-databases.ensures c.in_ok-documents.ensures) c.in_ok-revisions.ensures) c.in_ok-locals.ensures) c.in_err-indexes.ensures)

pub returns-in_err-entries : goal.returns-in_err-entries
returns-in_err-entries g c =
    let is : c.from_residual-in_err-entries.result ≡ Err c.in_err-entries.field-0.0 = search rules in
    inspects_nothing _ _ c.from_residual-in_err-entries.result is (inspects_both (λ d fit. fit) c.in_ok-indexes.indexes (inspects_both (λ d fit. fit) c.in_ok-locals.locals (inspects_both (λ d fit. fit) c.in_ok-revisions.revisions (inspects_both (λ d fit. fit) c.in_ok-documents.documents (inspects_both (λ d fit. fit) c.in_ok-databases.databases c.in_ok-databases.ensures c.in_ok-documents.ensures) c.in_ok-revisions.ensures) c.in_ok-locals.ensures) c.in_ok-indexes.ensures) c.in_err-entries.ensures)

pub returns : goal.returns
returns g c =
    inspects_so CountsRows c.in_ok-entries.entries _
    (λ trees is. record { databases = is.0.0.0.0.0; documents = is.0.0.0.0.1; revisions = is.0.0.0.1; locals = is.0.0.1; indexes = is.0.1; entries = is.1 }) (inspects_both (λ d fit. fit) c.in_ok-indexes.indexes (inspects_both (λ d fit. fit) c.in_ok-locals.locals (inspects_both (λ d fit. fit) c.in_ok-revisions.revisions (inspects_both (λ d fit. fit) c.in_ok-documents.documents (inspects_both (λ d fit. fit) c.in_ok-databases.databases c.in_ok-databases.ensures c.in_ok-documents.ensures) c.in_ok-revisions.ensures) c.in_ok-locals.ensures) c.in_ok-indexes.ensures) c.in_ok-entries.ensures)
