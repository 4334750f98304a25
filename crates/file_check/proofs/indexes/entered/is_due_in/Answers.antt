use Rattle.std.proofs.Common.{Err, None, Some, ap, rules, subst, sym, ℤ, ◌≡◌, ◌∙◌}
use Rattle.std.proofs.Common.{of_z, to_z, to_z-of_z, w64}
use Rattle.std.specs.Prelude.{IfSome, bytes_eq, option_map}
use Rattle.couch_json.specs.View.{view}
use Rattle.sqlite.specs.Held.{state}
use Rattle.sqlite_value.specs.Order.{column}
use Rattle.sqlite_value.specs.declared.value.Value.TheVariants.{Int}
use Rattle.tables.specs.Layout.{IsStore}
use Rattle.tables.specs.Listings.{SpellsId}
use Rattle.index.specs.Layout.{HasIndexRows}
use Rattle.index.specs.Meaning.{key_at}
use Rattle.index.specs.Rows.{entry_id, fields_of, database_of_declaration, key_of}
use Rattle.file_check.proofs.CheckSteps.{checks_so, checks_stop}
use Rattle.file_check.proofs.EntrySteps.{checks_both, checks_lost, entry_told}
use Rattle.file_check.proofs.OwnedEntries.{entry_fields, entry_index, entry_seen, key_entry, keyless_entry, unnamed_unseen, unseen_entry}
use Rattle.file_check.specs.inner.IndexRows.{IsEntryUnder}
use Rattle.file_check.specs.Indexes.{IsAnswer, IsOwnEntry}
use Rattle.file_check.specs.declared.finding.CheckFault.TheVariants as fault
use Rattle.file_check.proofs.indexes.entered.is_due_in.Goals as goal

pub returns-in_default : goal.returns-in_default
returns-in_default g c d e =
    let db = (state g.S.Store c.args.conn.now).now in
    let none : c.in_ok-declaration.field-0 ≡ None = search rules in
    let number : (z : ℤ) → column c.args.index.now 0 ≡ Int z → to_z w64 (of_z w64 c.whole_in-db.result) ≡ z = λ z is. to_z-of_z {w = w64} {z = c.whole_in-db.result} (record { sfits = c.whole_in-db.type_inv }) ∙ c.whole_in-db.ensures z is in
    checks_so g.S.Store (IsEntryUnder c.args.index.now d c.args.row.now e) HasIndexRows (λ trees is. IsAnswer (IsOwnEntry trees e) is) c.in_ok-declaration.ensures (λ fit. fit.entry.ready.rows)
    (λ fit says. absurd (entry_index db c.args.index.now d c.args.row.now e fit number c.blob_in.ensures c.blob_in-2.ensures says none))

pub returns-in_default-2 : goal.returns-in_default-2
returns-in_default-2 g c d e =
    let db = (state g.S.Store c.args.conn.now).now in
    let F = IsEntryUnder c.args.index.now d c.args.row.now e in
    let none : c.in_ok-id.field-0 ≡ None = search rules in
    checks_so g.S.Store F HasIndexRows (λ trees is. IsAnswer (IsOwnEntry trees e) is) c.in_ok-declaration.ensures (λ fit. fit.entry.ready.rows)
    (λ fit says.
    let cell = ap (λ x. column x 3) fit.entry.shown_is ∙ ap (λ x. column x 3) fit.entry.row in
    unseen_entry db.trees e d fit.found (unnamed_unseen db.trees fit.entry.ready.store.laid (database_of_declaration d) (entry_id e) (λ h. c.in_ok-id.ensures.none none (subst SpellsId (sym cell) h))))

pub returns-in_err-history : goal.returns-in_err-history
returns-in_err-history g c d e =
    let F = IsEntryUnder c.args.index.now d c.args.row.now e in
    let why = c.in_err-history.field-0.0 in
    let is : c.from_residual-in_err-history.result ≡ Err why = search rules in
    checks_stop g.S.Store why c.from_residual-in_err-history.result is
    (checks_both g.S.Store F HasIndexRows IsStore c.in_ok-declaration.ensures c.in_err-history.ensures (λ fit. fit.entry.ready.rows) (λ fit. fit.entry.ready.store))

pub returns-in_err-seen : goal.returns-in_err-seen
returns-in_err-seen g c d e =
    let F = IsEntryUnder c.args.index.now d c.args.row.now e in
    let is : c.from_residual-in_err-seen.result ≡ Err fault.Memory = search rules in
    checks_lost g.S.Store fault.Memory c.from_residual-in_err-seen.result is
    (checks_both g.S.Store F HasIndexRows IsStore c.in_ok-declaration.ensures c.in_ok-history.ensures (λ fit. fit.entry.ready.rows) (λ fit. fit.entry.ready.store))

pub returns-in_default-3 : goal.returns-in_default-3
returns-in_default-3 g c d e =
    let db = (state g.S.Store c.args.conn.now).now in
    let identified : c.in_ok-id.field-0 ≡ Some c.in-Some-2.id = search rules in
    let none : option_map view c.in_ok-seen.field-0 ≡ None = search rules in
    let number : (z : ℤ) → column c.args.index.now 0 ≡ Int z → to_z w64 (of_z w64 c.whole_in-db.result) ≡ z = λ z is. to_z-of_z {w = w64} {z = c.whole_in-db.result} (record { sfits = c.whole_in-db.type_inv }) ∙ c.whole_in-db.ensures z is in
    entry_told g.S.Store c.args.index.now d c.args.row.now e c.in_ok-declaration.ensures c.in_ok-history.ensures
    (λ fit h.
    unseen_entry db.trees e d fit.found
    (entry_seen db c.args.index.now d c.args.row.now e fit number c.blob_in.ensures c.blob_in-2.ensures c.in_ok-seen.ensures h.1 (λ i cell. subst (λ o. IfSome o (λ x. x ≡ i)) identified (c.in_ok-id.ensures.some i cell)) ∙ none))

pub returns-in_err-key : goal.returns-in_err-key
returns-in_err-key g c d e =
    let F = IsEntryUnder c.args.index.now d c.args.row.now e in
    let is : c.from_residual-in_err-key.result ≡ Err fault.Memory = search rules in
    checks_lost g.S.Store fault.Memory c.from_residual-in_err-key.result is
    (checks_both g.S.Store F HasIndexRows IsStore c.in_ok-declaration.ensures c.in_ok-history.ensures (λ fit. fit.entry.ready.rows) (λ fit. fit.entry.ready.store))

pub returns-in-Some-4 : goal.returns-in-Some-4
returns-in-Some-4 g c d e =
    let db = (state g.S.Store c.args.conn.now).now in
    let identified : c.in_ok-id.field-0 ≡ Some c.in-Some-2.id = search rules in
    let there : c.in_ok-declaration.field-0 ≡ Some c.in-Some.declaration = search rules in
    let seen : option_map view c.in_ok-seen.field-0 ≡ Some (view c.in-Some-3.seen) = search rules in
    let made : option_map (λ bytes. bytes.items) c.in_ok-key.field-0 ≡ Some c.in-Some-4.key.items = search rules in
    let number : (z : ℤ) → column c.args.index.now 0 ≡ Int z → to_z w64 (of_z w64 c.whole_in-db.result) ≡ z = λ z is. to_z-of_z {w = w64} {z = c.whole_in-db.result} (record { sfits = c.whole_in-db.type_inv }) ∙ c.whole_in-db.ensures z is in
    entry_told g.S.Store c.args.index.now d c.args.row.now e c.in_ok-declaration.ensures c.in_ok-history.ensures
    (λ fit h.
    let fields : c.deref.result.now ≡ fields_of d = c.deref.ensures.value ∙ entry_fields db c.args.index.now d c.args.row.now e fit number c.blob_in.ensures c.blob_in-2.ensures h.0 there in
    let at : key_at (fields_of d) (view c.in-Some-3.seen) ≡ Some c.in-Some-4.key.items = ap (λ fs. key_at fs (view c.in-Some-3.seen)) (sym fields) ∙ sym c.in_ok-key.ensures ∙ made in
    let sees = entry_seen db c.args.index.now d c.args.row.now e fit number c.blob_in.ensures c.blob_in-2.ensures c.in_ok-seen.ensures h.1 (λ i cell. subst (λ o. IfSome o (λ x. x ≡ i)) identified (c.in_ok-id.ensures.some i cell)) ∙ seen in
    let cell : c.blob_in-in-Some-4.result.now ≡ key_of e = c.blob_in-in-Some-4.ensures (key_of e) (ap (λ x. column x 2) fit.entry.shown_is ∙ ap (λ x. column x 2) fit.entry.row) in
    key_entry db.trees e d fit.found (view c.in-Some-3.seen) c.in-Some-4.key.items c.are_same.result sees at (c.are_same.ensures ∙ (λ j. bytes_eq (c.deref-in-Some-4.ensures.value j) (cell j))))

pub returns : goal.returns
returns g c d e =
    let db = (state g.S.Store c.args.conn.now).now in
    let identified : c.in_ok-id.field-0 ≡ Some c.in-Some-2.id = search rules in
    let there : c.in_ok-declaration.field-0 ≡ Some c.in-Some.declaration = search rules in
    let seen : option_map view c.in_ok-seen.field-0 ≡ Some (view c.in-Some-3.seen) = search rules in
    let made : option_map (λ bytes. bytes.items) c.in_ok-key.field-0 ≡ None = search rules in
    let number : (z : ℤ) → column c.args.index.now 0 ≡ Int z → to_z w64 (of_z w64 c.whole_in-db.result) ≡ z = λ z is. to_z-of_z {w = w64} {z = c.whole_in-db.result} (record { sfits = c.whole_in-db.type_inv }) ∙ c.whole_in-db.ensures z is in
    entry_told g.S.Store c.args.index.now d c.args.row.now e c.in_ok-declaration.ensures c.in_ok-history.ensures
    (λ fit h.
    let fields : c.deref.result.now ≡ fields_of d = c.deref.ensures.value ∙ entry_fields db c.args.index.now d c.args.row.now e fit number c.blob_in.ensures c.blob_in-2.ensures h.0 there in
    let at : key_at (fields_of d) (view c.in-Some-3.seen) ≡ None = ap (λ fs. key_at fs (view c.in-Some-3.seen)) (sym fields) ∙ sym c.in_ok-key.ensures ∙ made in
    let sees = entry_seen db c.args.index.now d c.args.row.now e fit number c.blob_in.ensures c.blob_in-2.ensures c.in_ok-seen.ensures h.1 (λ i cell. subst (λ o. IfSome o (λ x. x ≡ i)) identified (c.in_ok-id.ensures.some i cell)) ∙ seen in
    keyless_entry db.trees e d fit.found (view c.in-Some-3.seen) sees at)
