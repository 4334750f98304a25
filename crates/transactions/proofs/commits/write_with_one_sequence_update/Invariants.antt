use Rattle.transactions.proofs.Common.{AreDue, AreStored, HasCleanDisk, IsHeldOpen, IsTrue, KeepsCommit, List, [], additions, history_in_rows, revs_tree, state, take, true, ℕ, ◌≡◌}
use Rattle.tables.specs.Calls.{AsksInside}
use Rattle.transactions.specs.Commits.{KeepsOthers}
use Rattle.transactions.specs.Indexing.{AreAllIndexes, IsIndexedStore}
use Rattle.transactions.specs.inner.Placed.{ArePlain, IsAhead}
use Rattle.transactions.proofs.commits.write_with_one_sequence_update.Given as goal

-- The same transaction, and the writes so far are done in a database that stands ahead of them, with nothing committed; the histories that
-- were read are those that are stored, and they were read of a connection that was open.
abbrev pub invariant-loop-i : goal.invariant-loop-i
invariant-loop-i g l = record {
  same : l.tx.conn.ghost_name ≡ l.fn.tx.conn.ghost_name;
  asks : AsksInside g.S.Store l.fn.tx.conn.now l.tx.conn.now;
  held : HasCleanDisk (state g.S.Store l.tx.conn.now) → IsHeldOpen l.histories (state g.S.Store l.fn.tx.conn.now);
  so_far : (name : List ℕ) → HasCleanDisk (state g.S.Store l.tx.conn.now) → IsIndexedStore (state g.S.Store l.fn.tx.conn.now).now
      → AreAllIndexes [] l.db (state g.S.Store l.fn.tx.conn.now).now.trees → ArePlain (additions l.writes)
      → (due : AreDue (additions l.writes) name l.db l.sequence (state g.S.Store l.fn.tx.conn.now).now.trees)
      → IsAhead (additions l.writes) (additions (take l.i l.writes)) name due.row (state g.S.Store l.fn.tx.conn.now).now (state g.S.Store l.tx.conn.now).now
      × KeepsCommit (state g.S.Store l.fn.tx.conn.now) (state g.S.Store l.tx.conn.now)
      × AreStored l.histories (history_in_rows ((state g.S.Store l.tx.conn.now).now.trees revs_tree) l.db)
      × (IsTrue (state g.S.Store l.fn.tx.conn.now).is_open → IsTrue (state g.S.Store l.tx.conn.now).is_open)
      × ((state g.S.Store l.fn.tx.conn.now).in_transaction ≡ true → (state g.S.Store l.tx.conn.now).in_transaction ≡ true)
      × KeepsOthers l.db (state g.S.Store l.fn.tx.conn.now).now (state g.S.Store l.tx.conn.now).now;
}
