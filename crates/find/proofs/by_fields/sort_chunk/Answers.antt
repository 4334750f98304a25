use Rattle.std.proofs.Common.{Some, ap, ◌≡◌, ◌∙◌}
use Rattle.std.specs.FinMap as finite
use Rattle.store.specs.Contents.{Contents}
use Rattle.find.proofs.Places.{chunk_sorted}
use Rattle.find.specs.inner.Kept.{keep_places}
use Rattle.find.specs.inner.Sources.{ids_left, ids_of}
use Rattle.find.proofs.by_fields.sort_chunk.Goals as goal

pub returns-clause-ok : goal.returns-clause-ok
returns-clause-ok g c = λ honest d there.
    let query = c.args.sorting.now.query.now in
    let fields = c.args.sorting.now.fields.items in
    let source = c.args.source.now in
    let name = c.args.db.now in
    let between = c.in_ok-sort_candidates.ensures.reads.goes_on.honest honest in
    let later : finite.get (g.S.Store.contents c.take_chunk.new.store) name ≡ Some d = ap (λ (x : Contents). finite.get x name) (c.in_ok-candidates.ensures.reads.same between) ∙ there in
    chunk_sorted fields query d (ids_left source c.args.chunks.now d) (ids_of c.in_ok-candidates.candidates.items) (ids_left source c.take_chunk.new.chunks d) c.args.places.now.keys c.sort_candidates.new.places.keys
    (c.in_ok-candidates.ensures.ok between d there)
    (c.in_ok-sort_candidates.ensures.ok honest d later ∙ ap (λ cs. keep_places fields query d (ids_of cs) c.args.places.now.keys) c.deref.ensures.value)
