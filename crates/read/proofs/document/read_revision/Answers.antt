-- What a revision shows, and that it shows nothing, is what is defined of the database of this name.
use Rattle.std.proofs.Common.{◌≡◌, Err, Ok, Some, ap, is_some, option_map, sym, ◌∙◌}
use Rattle.std.specs.FinMap as map
use Rattle.couch_json.specs.View.{view}
use Rattle.store.specs.Contents.{Contents}
use Rattle.store.specs.Database.{history_at}
use Rattle.read.specs.Shown.{found, shown_document}
use Rattle.read.specs.declared.fault.ReadFault.TheVariants.{Missing}
use Rattle.read.proofs.Outlines.{shown_there}
use Rattle.read.proofs.document.read_revision.Goals as goal

pub returns-in-Some-clause-answer : goal.returns-in-Some-clause-answer
returns-in-Some-clause-answer g c honest =
    let o = map.get (g.S.Store.contents c.args.store.now) c.args.db.now in
    let mid = c.read_paths.new.store in
    let reads = c.read_shown.ensures.reads in
    let first = reads.goes_on.honest honest in
    let same : map.get (g.S.Store.contents mid) c.args.db.now ≡ o = ap (λ (k : Contents). map.get k c.args.db.now) (c.read_paths.ensures.reads.same first) in
    shown_there o (λ d. found (shown_document c.args.id.now (history_at d c.args.id.now) c.args.rev.now c.args.revs)) (Ok c.in_ok-of-in-Some.field-0)
    (ap is_some (sym same) ∙ c.in_ok-document.ensures.there honest)
    (λ d there.
    ap found
    (ap (shown_document c.args.id.now (history_at d c.args.id.now) c.args.rev.now) (sym c.in_ok-paths.ensures.asked)
    ∙ sym (c.in_ok-document.ensures.ok honest d (same ∙ there) (c.in_ok-paths.ensures.ok first d there))
    ∙ ap (option_map view) c.in-Some.is ∙ ap Some (sym c.in_ok-of-in-Some.ensures)))

pub returns-clause-answer : goal.returns-clause-answer
returns-clause-answer g c honest =
    let o = map.get (g.S.Store.contents c.args.store.now) c.args.db.now in
    let mid = c.read_paths.new.store in
    let reads = c.read_shown.ensures.reads in
    let first = reads.goes_on.honest honest in
    let same : map.get (g.S.Store.contents mid) c.args.db.now ≡ o = ap (λ (k : Contents). map.get k c.args.db.now) (c.read_paths.ensures.reads.same first) in
    shown_there o (λ d. found (shown_document c.args.id.now (history_at d c.args.id.now) c.args.rev.now c.args.revs)) (Err Missing)
    (ap is_some (sym same) ∙ c.in_ok-document.ensures.there honest)
    (λ d there.
    ap found
    (ap (shown_document c.args.id.now (history_at d c.args.id.now) c.args.rev.now) (sym c.in_ok-paths.ensures.asked)
    ∙ sym (c.in_ok-document.ensures.ok honest d (same ∙ there) (c.in_ok-paths.ensures.ok first d there))
    ∙ ap (option_map view) c.in-None.is))
