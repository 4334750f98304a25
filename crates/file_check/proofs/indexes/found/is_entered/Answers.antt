use Rattle.std.proofs.Common.{Err, ap, rules, ◌≡◌, ◌∙◌}
use Rattle.std.specs.Prelude.{◌∷◌, [], is_some, slice_get}
use Rattle.sqlite.specs.Held.{state}
use Rattle.sqlite_value.specs.Order.{column}
use Rattle.index.specs.Layout.{HasIndexRows}
use Rattle.index.specs.Rows.{has_entry, is_entry_of}
use Rattle.tables.specs.Schema.{entries_tree}
use Rattle.file_check.proofs.CheckSteps.{checks_err, checks_read, checks_so}
use Rattle.file_check.proofs.FoundRows.{any_row}
use Rattle.file_check.specs.declared.finding.CheckFault.TheVariants as fault
use Rattle.file_check.proofs.indexes.found.is_entered.Goals as goal

pub returns-in_err-rows : goal.returns-in_err-rows
returns-in_err-rows g c =
    let e = c.in_err-rows.field-0.0 in
    let is : c.from_residual.result ≡ Err (fault.Sqlite e) = search rules in
    checks_err g.S.Store HasIndexRows HasIndexRows (fault.Sqlite e) c.from_residual.result is (λ fit. fit) (checks_read g.S.Store (λ fit. fit.schema_is) c.in_err-rows.ensures)

pub returns : goal.returns
returns g c =
    let entries = (state g.S.Store c.args.conn.now).now.trees entries_tree in
    let n = c.args.declaration.now in
    let key = c.args.key.now in
    let id = c.args.id.now in
    checks_so g.S.Store HasIndexRows HasIndexRows (λ trees is. is ≡ has_entry (trees entries_tree) n key id) (checks_read g.S.Store (λ fit. fit.schema_is) c.in_ok-rows.ensures) (λ fit. fit)
    (λ fit rows. c.has_row.ensures ∙ ap (λ l. is_some (slice_get l 0)) (c.deref.ensures.value ∙ rows) ∙ any_row (is_entry_of n key id) (λ e. column e 3 ∷ []) entries)
