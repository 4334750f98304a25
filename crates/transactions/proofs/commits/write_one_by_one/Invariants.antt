use Rattle.transactions.proofs.Common.{AreDue, AreStored, HasCleanDisk, HasWritten, IsHeldOpen, IsTrue, KeepsCommit, List, [], additions, database_of_row, history_in_rows, map, revs_tree, state, take, true, writings_in, ℕ, ◌≡◌, ◌≢◌}
use Rattle.index.specs.Shown.{declared}
use Rattle.tables.specs.Calls.{AsksInside}
use Rattle.transactions.specs.Commits.{KeepsOthers}
use Rattle.transactions.specs.Indexing.{AreAllIndexes, IsIndexedBut, IsIndexedStore}
use Rattle.transactions.proofs.commits.write_one_by_one.Given as goal

-- The same transaction, and the writes so far are done, with nothing committed, and the index rows follow them, but for the design documents
-- that are postponed; the histories that were read are those that are stored, and they were read of a connection that was open.
abbrev pub invariant-loop-i : goal.invariant-loop-i
invariant-loop-i g l = record {
  same : l.tx.conn.ghost_name ≡ l.initial.tx.conn.ghost_name;
  asks : AsksInside g.S.Store l.initial.tx.conn.now l.tx.conn.now;
  held : HasCleanDisk (state g.S.Store l.tx.conn.now) → IsHeldOpen l.histories (state g.S.Store l.initial.tx.conn.now);
  opened : HasCleanDisk (state g.S.Store l.tx.conn.now) → l.postponed.keys ≢ [] → IsTrue (state g.S.Store l.initial.tx.conn.now).is_open;
  so_far : (name : List ℕ) → HasCleanDisk (state g.S.Store l.tx.conn.now) → IsIndexedStore (state g.S.Store l.initial.tx.conn.now).now
      → AreAllIndexes (map declared l.fn.indexes.items) l.db (state g.S.Store l.initial.tx.conn.now).now.trees
      → (due : AreDue (additions l.writes) name l.db l.sequence (state g.S.Store l.initial.tx.conn.now).now.trees)
      → HasWritten (writings_in (database_of_row (state g.S.Store l.initial.tx.conn.now).now.trees due.row) (additions (take l.i l.writes))) name due.row
      (state g.S.Store l.initial.tx.conn.now).now (state g.S.Store l.tx.conn.now).now
      × IsIndexedBut l.db l.postponed.keys (state g.S.Store l.tx.conn.now).now.trees
      × AreAllIndexes (map declared l.fn.indexes.items) l.db (state g.S.Store l.tx.conn.now).now.trees
      × KeepsCommit (state g.S.Store l.initial.tx.conn.now) (state g.S.Store l.tx.conn.now)
      × AreStored l.histories (history_in_rows ((state g.S.Store l.tx.conn.now).now.trees revs_tree) l.db)
      × (IsTrue (state g.S.Store l.initial.tx.conn.now).is_open → IsTrue (state g.S.Store l.tx.conn.now).is_open)
      × ((state g.S.Store l.initial.tx.conn.now).in_transaction ≡ true → (state g.S.Store l.tx.conn.now).in_transaction ≡ true)
      × KeepsOthers l.db (state g.S.Store l.initial.tx.conn.now).now (state g.S.Store l.tx.conn.now).now;
}
