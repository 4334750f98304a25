use Rattle.std.proofs.Common.{None, Some, ap, rules, sym, ◌≡◌, ◌∙◌}
use Rattle.std.proofs.Common.{of_z, to_z, to_z-of_z, w64}
use Rattle.couch_json.specs.View.{view}
use Rattle.sqlite.specs.Held.{state}
use Rattle.index.specs.Layout.{HasIndexRows}
use Rattle.index.specs.Meaning.{key_at}
use Rattle.index.specs.Rows.{has_entry, is_declaration_of}
use Rattle.tables.specs.Schema.{decls_tree, entries_tree}
use Rattle.index.specs.Shown.{declared, declared_at}
use Rattle.std.specs.Prelude.{find, option_map}
use Rattle.tree.proofs.Shown.{inside}
use Rattle.file_check.proofs.CheckSteps.{checks_so, checks_then, checks_weaker}
use Rattle.file_check.proofs.FollowedDocuments.{key_answer, keyless_answer, shown_found}
use Rattle.file_check.specs.inner.IndexRows.{IsShownIndex}
use Rattle.file_check.specs.Indexes.{HasItsKey, IsAnswer}
use Rattle.file_check.proofs.indexes.followed.has_key.Goals as goal

pub returns-in_default : goal.returns-in_default
returns-in_default g c r =
    let d = (state g.S.Store c.args.conn.now).now in
    let F = IsShownIndex c.args.row.now r in
    let none : c.in_ok-found.found ≡ None = search rules in
    checks_so g.S.Store F HasIndexRows (λ trees has. IsAnswer (HasItsKey c.args.id.now (Some (view c.args.seen.now)) trees r) has) c.in_ok-found.ensures (λ fit. fit.readable.rows)
    (λ fit is.
    let says = shown_found d fit.readable.rows c.args.row.now r fit.found fit.shown_is (to_z w64 (of_z w64 c.whole_in.result)) c.blob_in.result.now c.blob_in-2.result.now
    (λ m at. to_z-of_z {w = w64} {z = c.whole_in.result} (record { sfits = c.whole_in.type_inv }) ∙ c.whole_in.ensures m at) c.blob_in.ensures c.blob_in-2.ensures (option_map declared c.in_ok-found.found) is in
    absurd (let never = sym (ap (option_map declared) none) ∙ says in cc))

pub returns-in-Some-2 : goal.returns-in-Some-2
returns-in-Some-2 g c r =
    let d = (state g.S.Store c.args.conn.now).now in
    let F = IsShownIndex c.args.row.now r in
    let here : c.in_ok-found.found ≡ Some c.in-Some.declaration = search rules in
    let made : c.in_ok-key.field-0 ≡ Some c.in-Some-2.key = search rules in
    let D = declared c.in-Some.declaration in
    let key : key_at D.fields (view c.args.seen.now) ≡ Some c.in-Some-2.key.items = search rules in
    let at_key : c.deref-in-Some-2.result.now ≡ c.in-Some-2.key.items = search rules in
    let of_id : c.as_bytes.result.now ≡ c.args.id.now = search rules in
    checks_then g.S.Store F HasIndexRows {A = λ trees found. option_map declared found ≡ option_map declared_at (find (is_declaration_of (to_z w64 (of_z w64 c.whole_in.result)) c.blob_in.result.now c.blob_in-2.result.now) (trees decls_tree))} {C = λ trees has. IsAnswer (HasItsKey c.args.id.now (Some (view c.args.seen.now)) trees r) has}
    (checks_weaker g.S.Store F HasIndexRows c.in_ok-found.ensures (λ fit. fit.readable.rows) (λ fit x is. is)) c.is_entered.ensures (λ fit is. fit.readable.rows)
    (λ fit is b told.
    let says = shown_found d fit.readable.rows c.args.row.now r fit.found fit.shown_is (to_z w64 (of_z w64 c.whole_in.result)) c.blob_in.result.now c.blob_in-2.result.now
    (λ m at. to_z-of_z {w = w64} {z = c.whole_in.result} (record { sfits = c.whole_in.type_inv }) ∙ c.whole_in.ensures m at) c.blob_in.ensures c.blob_in-2.ensures (option_map declared c.in_ok-found.found) is in
    key_answer d.trees c.args.id.now (view c.args.seen.now) r D (inside D (declared_at r) (sym (ap (option_map declared) here) ∙ says)) c.in-Some-2.key.items b key (told ∙ (λ j. has_entry (d.trees entries_tree) D.number (at_key j) (of_id j))))

pub returns : goal.returns
returns g c r =
    let d = (state g.S.Store c.args.conn.now).now in
    let F = IsShownIndex c.args.row.now r in
    let here : c.in_ok-found.found ≡ Some c.in-Some.declaration = search rules in
    let made : c.in_ok-key.field-0 ≡ None = search rules in
    let D = declared c.in-Some.declaration in
    let none : key_at D.fields (view c.args.seen.now) ≡ None = search rules in
    checks_so g.S.Store F HasIndexRows (λ trees has. IsAnswer (HasItsKey c.args.id.now (Some (view c.args.seen.now)) trees r) has) c.in_ok-found.ensures (λ fit. fit.readable.rows)
    (λ fit is.
    let says = shown_found d fit.readable.rows c.args.row.now r fit.found fit.shown_is (to_z w64 (of_z w64 c.whole_in.result)) c.blob_in.result.now c.blob_in-2.result.now
    (λ m at. to_z-of_z {w = w64} {z = c.whole_in.result} (record { sfits = c.whole_in.type_inv }) ∙ c.whole_in.ensures m at) c.blob_in.ensures c.blob_in-2.ensures (option_map declared c.in_ok-found.found) is in
    keyless_answer d.trees c.args.id.now (view c.args.seen.now) r D (inside D (declared_at r) (sym (ap (option_map declared) here) ∙ says)) none)
