use Rattle.std.proofs.Common.{◌≡◌, Some, drop, take, true}
use Rattle.std.specs.FinMap as finite
use Rattle.std.specs.Prelude.{is_some}
use Rattle.store.specs.Calls.{OnlyReads}
use Rattle.store.specs.Database.{Database}
use Rattle.find.specs.inner.Matching.{completion, matches_at}
use Rattle.find.specs.inner.Sources.{chunks_left, ids_in, ids_left}
use Rattle.find.proofs.in_order.find_in_order.Given as goal

-- the part, completed with the matches of the ids that are left, is that of all ids
abbrev pub invariant-loop-chunks : goal.invariant-loop-chunks
invariant-loop-chunks g l = record {
  found : g.S.Store.is_honest l.store → (d : Database) → finite.get (g.S.Store.contents l.initial.store) l.db ≡ Some d
      → completion l.part (matches_at l.query.selector d (ids_left l.source l.chunks d)) ≡ take l.query.limit (drop l.query.skip (matches_at l.query.selector d (ids_in l.source d)));
  there : l.chunks.is_done ≡ true → g.S.Store.is_honest l.store → is_some (finite.get (g.S.Store.contents l.initial.store) l.db) ≡ true;
  reads : OnlyReads g.S.Store l.initial.store l.store;
}

abbrev pub decreases-loop-chunks : goal.decreases-loop-chunks
decreases-loop-chunks g l = chunks_left l.chunks
