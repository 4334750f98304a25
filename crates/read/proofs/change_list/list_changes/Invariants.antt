use Rattle.std.proofs.Common.{◌≡◌, ◌-◌, suc, [], Some, Bool, ℕ, true, false}
use Rattle.std.specs.FinMap as finite
use Rattle.store.specs.Calls.{OnlyReads}
use Rattle.store.specs.Database.{Database}
use Rattle.read.specs.inner.ChangesSoFar.{whole_changes, rows_to_come}
use Rattle.read.proofs.change_list.list_changes.Given as goal

-- what has come, with the rows that are still to come, is the whole; where there was no page with rows, none are
abbrev pub invariant-loop-more : goal.invariant-loop-more
invariant-loop-more g l = record {
  listed : g.S.Store.is_honest l.store → (d : Database) → finite.get (g.S.Store.contents l.initial.store) l.db ≡ Some d
      → whole_changes l.so_far (rows_to_come l.all_leaves l.so_far d) ≡ whole_changes l.initial.so_far (rows_to_come l.all_leaves l.initial.so_far d);
  last : l.more ≡ false → g.S.Store.is_honest l.store → (d : Database) → finite.get (g.S.Store.contents l.initial.store) l.db ≡ Some d → rows_to_come l.all_leaves l.so_far d ≡ [];
  reads : OnlyReads g.S.Store l.initial.store l.store;
}

-- the next page, if there is one, leads onward
abbrev rounds : Bool → ℕ → ℕ
rounds true since = suc (9223372036854775808 - since)
rounds false since = 0

abbrev pub decreases-loop-more : goal.decreases-loop-more
decreases-loop-more g l = rounds l.more l.so_far.since
