use Rattle.transactions.proofs.Common.{AreKeyed, HasCleanDisk, IsOnTheWay, None, drop, entries_before, revs_tree, schema, state, unknown_in, ◌≡◌}
use Rattle.tables.specs.Calls.{Proceeds}
use Rattle.transactions.proofs.document_write.insert_line.Given as goal

-- the same transaction, and what is left of the path makes of the tables what the whole path makes of those at the start
abbrev pub invariant-loop-i : goal.invariant-loop-i
invariant-loop-i g l = record {
  same : l.tx.conn.ghost_name ≡ l.initial.tx.conn.ghost_name;
  proceeds : Proceeds g.S.Store l.initial.tx.conn.now l.tx.conn.now;
  way : HasCleanDisk (state g.S.Store l.tx.conn.now) → l.initial.tx.conn.now.schema ≡ schema → AreKeyed ((state g.S.Store l.initial.tx.conn.now).now.trees revs_tree)
      → IsOnTheWay (unknown_in l.history (entries_before None l.path l.parent)) (unknown_in l.history (entries_before None (drop l.i l.path) l.parent)) l.db l.id (state g.S.Store l.initial.tx.conn.now).now (state g.S.Store l.tx.conn.now).now;
}
