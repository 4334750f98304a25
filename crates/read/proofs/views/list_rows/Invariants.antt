use Rattle.std.proofs.Common.{◌≡◌, suc, Some, Bool, ℕ, true, false}
use Rattle.std.specs.FinMap as finite
use Rattle.store.specs.Calls.{OnlyReads}
use Rattle.store.specs.Database.{Database}
use Rattle.read.specs.Views.{key_row_object}
use Rattle.read.specs.inner.RowsSoFar.{AreCountable, whole_list, rows_by_key}
use Rattle.read.proofs.views.list_rows.Given as goal

-- what has come, with the rows that are still to come, is the whole; behind the last page, none are
abbrev pub invariant-loop-more : goal.invariant-loop-more
invariant-loop-more g l = record {
  listed : g.S.Store.is_honest l.store → (d : Database) → finite.get (g.S.Store.contents l.initial.store) l.db ≡ Some d → AreCountable (rows_by_key l.initial.range l.design l.index d)
      → whole_list key_row_object (rows_by_key l.initial.range l.design l.index d) l.so_far ≡ whole_list key_row_object (rows_by_key l.initial.range l.design l.index d) l.initial.so_far;
  last : l.more ≡ false → g.S.Store.is_honest l.store → (d : Database) → finite.get (g.S.Store.contents l.initial.store) l.db ≡ Some d → AreCountable (rows_by_key l.initial.range l.design l.index d)
      → l.so_far.rows ≡ whole_list key_row_object (rows_by_key l.initial.range l.design l.index d) l.so_far;
  same : (d : Database) → rows_by_key l.range l.design l.index d ≡ rows_by_key l.initial.range l.design l.index d;
  reads : OnlyReads g.S.Store l.initial.store l.store;
}

-- the next page, if there is one, leaves fewer rows
abbrev rounds : Bool → ℕ → ℕ
rounds true left = suc left
rounds false left = 0

abbrev pub decreases-loop-more : goal.decreases-loop-more
decreases-loop-more g l = rounds l.more l.so_far.left
