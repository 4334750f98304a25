use Rattle.index.proofs.Common.{Entries, IndexFault, List, Ok, Row, declared, drop, map, ◌≡◌}
use Rattle.index.specs.Filling.{numbers_of, without_ids}
use Rattle.index.specs.inner.Gathering.{AreToGather, HasEntriesBeside, entry_of}
use Rattle.index.specs.Steps.{Steps}
use Rattle.tables.specs.Rows.{id_of}
use Rattle.index.proofs.filling.gather_rows.Given as goal

-- the same transaction, and the documents that come next are missing
abbrev pub invariant-loop-row : goal.invariant-loop-row
invariant-loop-row g l = record {
  same : l.tx.conn.ghost_name ≡ l.initial.tx.conn.ghost_name;
  so_far : (docs : List Row) (due : Entries)
      → Steps {X = Unit {0}} {E = IndexFault} g.S.Store (AreToGather l.db (map declared l.declarations) l.rows docs (map entry_of l.initial.gathered.entries.items) due)
      (HasEntriesBeside (without_ids due (numbers_of (map declared l.declarations)) (map id_of (drop l.row-index docs))) (map entry_of l.gathered.entries.items)) l.initial.tx.conn.now l.tx.conn.now (Ok tt);
}
