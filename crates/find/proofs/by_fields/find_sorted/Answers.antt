-- The documents at the sorted places are what is found.
use Rattle.std.proofs.Common.{Some, [], ap, ap₂, drop, map, option_map, take, ◌≡◌, ◌∙◌}
use Rattle.std.specs.FinMap as finite
use Rattle.store.specs.Contents.{Contents}
use Rattle.store.specs.Database.{Database}
use Rattle.store.specs.Pages.{in_direction}
use Rattle.find.proofs.Places.{part_read, there_is}
use Rattle.find.proofs.Takings.{ids_directed, ids_later, known_later}
use Rattle.find.specs.inner.Candidates.{put_candidates}
use Rattle.find.specs.inner.Kept.{distinct, keep_places}
use Rattle.find.specs.inner.Sources.{ids_in, ids_of}
use Rattle.find.proofs.by_fields.find_sorted.Goals as goal

pub returns-clause-ok : goal.returns-clause-ok
returns-clause-ok g c = λ honest.
    let query = c.args.query.now in
    let source = c.args.source.now in
    let name = c.args.db.now in
    let between = c.in_ok-put_matches.ensures.reads.goes_on.honest honest in
    let database = there_is (finite.get (g.S.Store.contents c.args.store.now) name) (c.in_ok-places.ensures.there between) in
    let d = database.0 in
    let later : finite.get (g.S.Store.contents c.sort_matches.new.store) name ≡ Some d = ap (λ (x : Contents). finite.get x name) (c.in_ok-places.ensures.reads.same between) ∙ database.1 in
    let candidates = c.in_ok-candidates.candidates.items in
    let wanted = c.leave_out-wanted.result.now in
    let own : keep_places c.in_ok-sorting.sorting.fields.items c.in_ok-sorting.sorting.query.now d (ids_in source d) [] ≡ keep_places (distinct query.sort) query d (ids_in source d) [] =
    ap₂ (λ fields q. keep_places fields q d (ids_in source d) []) c.in_ok-sorting.ensures.fields c.in_ok-sorting.ensures.query in
    let sorted : ids_of candidates ≡ in_direction query.descending (map (λ p. p.id) (keep_places (distinct query.sort) query d (ids_in source d) [])) =
    ids_directed query.descending (map (λ p. p.id) c.in_ok-places.places.keys) candidates c.in_ok-candidates.ensures
    ∙ ap (λ ps. in_direction query.descending (map (λ p. p.id) ps)) (c.in_ok-places.ensures.ok between d database.1 ∙ own) in
    let left : ids_of wanted ≡ drop query.skip (ids_of candidates) = ids_later query.skip candidates wanted (c.leave_out-wanted.ensures ∙ ap (drop query.skip) c.deref.ensures.value) in
    ap (option_map (λ (e : Database). take query.limit (drop query.skip (in_direction query.descending (map (λ x. x.1) (put_candidates query.sort query.selector e (ids_in source e) [])))))) database.1
    ∙ ap Some (part_read query d (ids_in source d) (ids_of candidates) (ids_of wanted) c.in_ok-part.part c.put_matches.new.part sorted left c.in_ok-part.ensures
    (c.in_ok-put_matches.ensures.ok honest d later))

pub put_matches-requires : goal.put_matches-requires
put_matches-requires g c = λ honest d there.
    known_later d c.args.query.now.descending c.args.query.now.skip (map (λ p. p.id) c.in_ok-places.places.keys) c.in_ok-candidates.candidates.items c.leave_out-wanted.result.now c.in_ok-candidates.ensures
    (c.leave_out-wanted.ensures ∙ ap (drop c.args.query.now.skip) c.deref.ensures.value)
