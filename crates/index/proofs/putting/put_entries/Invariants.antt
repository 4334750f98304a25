use Rattle.index.proofs.Common.{Entries, Error, Ok, drop, map, ◌≡◌}
use Rattle.index.specs.inner.Gathering.{AreToPut, HasEntriesBeside, entry_of}
use Rattle.index.specs.Steps.{Steps}
use Rattle.index.proofs.putting.put_entries.Given as goal

-- the same transaction, and the entries that come next are left
abbrev pub invariant-loop-entry : goal.invariant-loop-entry
invariant-loop-entry g l = record {
  same : l.tx.conn.ghost_name ≡ l.initial.tx.conn.ghost_name;
  so_far : (due : Entries)
      → Steps {X = Unit {0}} {E = Error} g.S.Store (AreToPut due (map entry_of l.entries)) (HasEntriesBeside due (map entry_of (drop l.entry-index l.entries))) l.initial.tx.conn.now l.tx.conn.now (Ok tt);
}
