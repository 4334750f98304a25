use Rattle.std.proofs.Common.{drop}
use Rattle.store.specs.Database.{Document, TextMap}
use Rattle.sqlstore.specs.inner.Marks.{AreChanges, AreCounts}
use Rattle.sqlstore.proofs.known_counts.KnownCounts.after.Given as goal

-- the counts are those of documents that the changes left make into the new ones
abbrev pub invariant-loop-change : goal.invariant-loop-change
invariant-loop-change l = record {
  so_far : (old new : TextMap Document) → AreChanges l.changes old new → AreCounts l.fn.self old
      → (mid : TextMap Document) × AreChanges (drop l.change-index l.changes) mid new × AreCounts l.counts mid;
}
