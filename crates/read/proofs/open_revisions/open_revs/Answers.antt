-- What is said of the revisions that are asked for is what is defined of the database of this name.
use Rattle.std.proofs.Common.{◌≡◌, Ok, ap, map as each, option_copied, option_map, sym, ◌∙◌}
use Rattle.std.specs.FinMap as map
use Rattle.couch_json.specs.Value.{array}
use Rattle.couch_json.specs.View.{items_of}
use Rattle.store.specs.Contents.{Contents}
use Rattle.store.specs.Database.{Database, history_at}
use Rattle.read.specs.OpenRevisions.{asked_revisions, open_revision, open_revisions}
use Rattle.read.proofs.Outlines.{answered_there, shown_there}
use Rattle.read.proofs.open_revisions.open_revs.Goals as goal

pub returns-clause-answer : goal.returns-clause-answer
returns-clause-answer g c honest =
    let id = c.args.id.now in
    let asked = option_copied c.args.asked in
    let o = map.get (g.S.Store.contents c.args.store.now) c.args.db.now in
    let second = c.read_asked.ensures.reads.goes_on.honest honest in
    let first = c.read_paths.ensures.reads.goes_on.honest second in
    let kept : map.get (g.S.Store.contents c.security.new.self) c.args.db.now ≡ o = ap (λ (k : Contents). map.get k c.args.db.now) (c.security.ensures.reads.same first) in
    let same : map.get (g.S.Store.contents c.read_paths.new.store) c.args.db.now ≡ o = ap (λ (k : Contents). map.get k c.args.db.now) (c.read_paths.ensures.reads.same second) ∙ kept in
    ap (option_map (λ value. Ok value))
    (shown_there o (λ (d : Database). open_revisions id (history_at d id) asked c.args.revs) c.in_ok-end.field-0
    (answered_there o (λ (d : Database). d.security) _ (c.in_ok-_present.ensures.answer first))
    (λ d there.
    let paths = c.in_ok-paths.ensures.ok second d (kept ∙ there) in
    ap (λ vs. array (items_of vs))
    (ap (λ revs. each (open_revision id (history_at d id) revs) (asked_revisions (history_at d id) asked)) (sym c.in_ok-paths.ensures.asked)
    ∙ sym (c.in_ok-elements.ensures.ok honest d (same ∙ there) paths))
    ∙ sym c.in_ok-end.ensures))
