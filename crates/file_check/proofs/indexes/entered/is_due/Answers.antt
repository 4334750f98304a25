use Rattle.std.proofs.Common.{Err, None, Some, [], ap, rules, sym, ◌≡◌, ◌∙◌}
use Rattle.std.proofs.Common.{of_z, to_z, to_z-of_z, w64}
use Rattle.std.specs.Prelude.{find, slice_get, unwrap_or}
use Rattle.sqlite.specs.Held.{state}
use Rattle.sqlite_value.specs.Order.{column}
use Rattle.tables.specs.Rows.{has_number}
use Rattle.tables.specs.Schema.{decls_tree}
use Rattle.index.specs.Layout.{HasIndexRows}
use Rattle.index.specs.Rows.{declaration_of}
use Rattle.file_check.proofs.CheckSteps.{checks_err, checks_read, checks_so, checks_weaker}
use Rattle.file_check.proofs.EntrySteps.{first_looked}
use Rattle.file_check.proofs.FoundRows.{first_shown}
use Rattle.file_check.proofs.OwnedEntries.{undeclared_entry}
use Rattle.file_check.proofs.WalkedRows.{shown_nothing}
use Rattle.file_check.specs.inner.IndexRows.{IsEntryUnder, IsNextRow, shown_index}
use Rattle.file_check.specs.declared.indexes.indexed.Indexed.TheVariants.{Entries}
use Rattle.file_check.specs.Indexes.{IsAnswer, IsOwnEntry}
use Rattle.file_check.specs.declared.finding.CheckFault.TheVariants as fault
use Rattle.file_check.proofs.indexes.entered.is_due.Goals as goal

pub returns-in_err-rows : goal.returns-in_err-rows
returns-in_err-rows g c e =
    let why = c.in_err-rows.field-0.0 in
    let is : c.from_residual.result ≡ Err (fault.Sqlite why) = search rules in
    checks_err g.S.Store (IsNextRow Entries c.args.row.now e) HasIndexRows (fault.Sqlite why) c.from_residual.result is (λ fit. fit.ready.rows) (checks_read g.S.Store (λ fit. fit.schema_is) c.in_err-rows.ensures)

pub returns-in-Some : goal.returns-in-Some
returns-in-Some g c e =
    let decls = (state g.S.Store c.args.conn.now).now.trees decls_tree in
    let F = IsNextRow Entries c.args.row.now e in
    let n = to_z w64 (of_z w64 c.whole_in.result) in
    let d = unwrap_or (find (has_number n) decls) [] in
    let at : slice_get c.in_ok-rows.rows.items 0 ≡ Some c.in-Some.index.now = search rules in
    first_looked g.S.Store F (IsEntryUnder c.in-Some.index.now d c.args.row.now e) decls_tree (λ rows. rows.items) (has_number n) shown_index c.in-Some.index.now {B = λ trees is. IsAnswer (IsOwnEntry trees e) is}
    (checks_weaker g.S.Store F HasIndexRows (checks_read g.S.Store (λ fit. fit.schema_is) c.in_ok-rows.ensures) (λ fit. fit.ready.rows) (λ fit x is. is)) at (c.is_due_in.ensures d e)
    (λ fit there shown.
    let number : n ≡ declaration_of e = to_z-of_z {w = w64} {z = c.whole_in.result} (record { sfits = c.whole_in.type_inv }) ∙ c.whole_in.ensures (declaration_of e) (ap (λ x. column x 1) fit.shown_is ∙ ap (λ x. column x 1) fit.row) in
    record { entry = fit; found = ap (λ m. find (has_number m) decls) (sym number) ∙ there; index_is = shown })

pub returns : goal.returns
returns g c e =
    let trees = (state g.S.Store c.args.conn.now).now.trees in
    let decls = trees decls_tree in
    let F = IsNextRow Entries c.args.row.now e in
    let n = to_z w64 (of_z w64 c.whole_in.result) in
    let at : slice_get c.in_ok-rows.rows.items 0 ≡ None = search rules in
    checks_so g.S.Store F HasIndexRows (λ trees is. IsAnswer (IsOwnEntry trees e) is) (checks_read g.S.Store (λ fit. fit.schema_is) c.in_ok-rows.ensures) (λ fit. fit.ready.rows)
    (λ fit rows.
    let number : n ≡ declaration_of e = to_z-of_z {w = w64} {z = c.whole_in.result} (record { sfits = c.whole_in.type_inv }) ∙ c.whole_in.ensures (declaration_of e) (ap (λ x. column x 1) fit.shown_is ∙ ap (λ x. column x 1) fit.row) in
    undeclared_entry trees e
    (ap (λ m. find (has_number m) decls) (sym number) ∙ shown_nothing shown_index (find (has_number n) decls) (sym (ap (λ l. slice_get l 0) rows ∙ first_shown (has_number n) shown_index decls) ∙ at)))
