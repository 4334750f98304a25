use Rattle.std.proofs.Common.{List, drop, ℕ}
use Rattle.store.specs.Database.{Document, TextMap}
use Rattle.ranks.specs.Counts.{AreRanksOf}
use Rattle.sqlstore.specs.inner.Keys.{AreKeyChanges, document_keys}
use Rattle.sqlstore.proofs.moved_keys.move_keys.Given as goal

-- the ranks are those of documents that the changes left make into the new ones
abbrev pub invariant-loop-change : goal.invariant-loop-change
invariant-loop-change l = record {
  so_far : (fields : List (List ℕ)) (old new : TextMap Document) → AreKeyChanges fields l.changes old new → AreRanksOf l.fn.ranks (document_keys fields old)
      → (mid : TextMap Document) × AreKeyChanges fields (drop l.change-index l.changes) mid new × AreRanksOf l.moved (document_keys fields mid);
}
