use Rattle.std.proofs.Common.{rules, ◌≡◌, refl, false}
use Rattle.std.specs.Prelude.{Some}
use Rattle.couch_json.specs.View.{view}
use Rattle.tables.specs.Shown.{held_shown}
use Rattle.tree.specs.ShownDocument.{document_at_revision}
use Rattle.index.proofs.seen.show_row.Goals as goal

pub returns-in-Some-false-default-clause-ok : goal.returns-in-Some-false-default-clause-ok
returns-in-Some-false-default-clause-ok c =
    let v = view c.in-Some-false-default.body in
    let held : held_shown c.args.row.now ≡ Some (false, v) = search rules in
    let shown : view c.in_ok-show-in-Some-false-default.field-0 ≡ document_at_revision c.args.id.now c.args.rev.now (record { deleted = false; body = v }) = search rules in
    record { live = record { row = c.args.row.now; first = refl; body = v; held = held }; shown = shown }
