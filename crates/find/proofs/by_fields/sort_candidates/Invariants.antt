use Rattle.std.proofs.Common.{◌≡◌, Some, drop}
use Rattle.std.specs.FinMap as finite
use Rattle.store.specs.Calls.{OnlyReads}
use Rattle.store.specs.Database.{Database}
use Rattle.find.specs.inner.Kept.{keep_places}
use Rattle.find.specs.inner.Sources.{ids_of}
use Rattle.find.proofs.by_fields.sort_candidates.Given as goal

-- what is sorted, with the places of the candidates to come put in, is what all candidates give
abbrev pub invariant-loop-candidate : goal.invariant-loop-candidate
invariant-loop-candidate g l = record {
  sorted : g.S.Store.is_honest l.store → (d : Database) → finite.get (g.S.Store.contents l.initial.store) l.db ≡ Some d
      → keep_places l.sorting.fields.items l.sorting.query.now d (ids_of (drop l.candidate-index l.candidates)) l.places.keys ≡ keep_places l.sorting.fields.items l.sorting.query.now d (ids_of l.candidates) l.initial.places.keys;
  reads : OnlyReads g.S.Store l.initial.store l.store;
}
