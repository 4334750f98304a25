use Rattle.std.proofs.Common.{IfSome, drop}
use Rattle.store.specs.Database.{Document, TextMap}
use Rattle.ranks.specs.Counts.{AreRanksOf}
use Rattle.sqlstore.specs.inner.Marks.{AreChanges, live_keys}
use Rattle.sqlstore.proofs.moved_ranks.move_ranks.Given as goal

-- the ranks are those of documents that the changes left make into the new ones
abbrev pub invariant-loop-change : goal.invariant-loop-change
invariant-loop-change l = record {
  so_far : (old new : TextMap Document) → AreChanges l.changes old new → IfSome l.fn.ranks (λ r. AreRanksOf r (live_keys old))
      → (mid : TextMap Document) × AreChanges (drop l.change-index l.changes) mid new × AreRanksOf l.moved (live_keys mid);
}
