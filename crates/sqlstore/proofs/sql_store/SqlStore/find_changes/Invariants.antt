use Rattle.sqlstore.proofs.Common.{Document, Stands, TextMap, is_honest, take, trees_of}
use Rattle.sqlstore.specs.inner.Marks.{AreChanges, AreMarks, documents_at, ids_of}
use Rattle.sqlstore.proofs.MarkChanges.{IsMixed}
use Rattle.sqlstore.proofs.sql_store.SqlStore.find_changes.Given as goal

-- The store stands as it was. The changes so far make of old documents some whose marks are in the map, and which are those that are
-- stored, where they were gone over.
abbrev pub invariant-loop-write : goal.invariant-loop-write
invariant-loop-write g l = record {
  stands : Stands g.S.Store l.initial.self l.self;
  so_far : is_honest g.S.Store l.self → (old : TextMap Document) → AreMarks l.fn.marks old
      → (mid : TextMap Document) × AreChanges l.changes.items old mid × AreMarks l.marks mid
      × IsMixed (ids_of (take l.write-index l.writes)) old (documents_at (trees_of g.S.Store l.initial.self) l.number) mid;
}
