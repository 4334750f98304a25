use Rattle.std.proofs.Common.{◌≡◌, [], Some, true}
use Rattle.std.specs.FinMap as finite
use Rattle.std.specs.Prelude.{is_some}
use Rattle.store.specs.Calls.{OnlyReads}
use Rattle.store.specs.Database.{Database}
use Rattle.find.specs.inner.Kept.{keep_places}
use Rattle.find.specs.inner.Sources.{chunks_left, ids_in, ids_left}
use Rattle.find.proofs.by_fields.sort_matches.Given as goal

-- what is sorted, with the places of the ids that are left put in, is what all ids give
abbrev pub invariant-loop-chunks : goal.invariant-loop-chunks
invariant-loop-chunks g l = record {
  sorted : g.S.Store.is_honest l.store → (d : Database) → finite.get (g.S.Store.contents l.initial.store) l.db ≡ Some d
      → keep_places l.sorting.fields.items l.sorting.query.now d (ids_left l.source l.chunks d) l.places.keys ≡ keep_places l.sorting.fields.items l.sorting.query.now d (ids_in l.source d) [];
  there : l.chunks.is_done ≡ true → g.S.Store.is_honest l.store → is_some (finite.get (g.S.Store.contents l.initial.store) l.db) ≡ true;
  reads : OnlyReads g.S.Store l.initial.store l.store;
}

abbrev pub decreases-loop-chunks : goal.decreases-loop-chunks
decreases-loop-chunks g l = chunks_left l.chunks
