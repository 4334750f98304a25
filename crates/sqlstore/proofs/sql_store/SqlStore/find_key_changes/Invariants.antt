use Rattle.sqlstore.proofs.Common.{Document, Stands, TextMap, is_honest, take, trees_of}
use Rattle.sqlstore.specs.inner.Keys.{AreKeyChanges, AreKeys}
use Rattle.sqlstore.specs.inner.Marks.{documents_at, ids_of}
use Rattle.sqlstore.proofs.MarkChanges.{IsMixed}
use Rattle.sqlstore.proofs.sql_store.SqlStore.find_key_changes.Given as goal

-- The store stands as it was. The changes so far make of old documents some whose keys are in the map, and which are those that are
-- stored, where they were gone over.
abbrev pub invariant-loop-write : goal.invariant-loop-write
invariant-loop-write g l = record {
  stands : Stands g.S.Store l.initial.self l.self;
  so_far : is_honest g.S.Store l.self → (old : TextMap Document) → AreKeys l.fields l.fn.keys old
      → (mid : TextMap Document) × AreKeyChanges l.fields l.changes.items old mid × AreKeys l.fields l.keys mid
      × IsMixed (ids_of (take l.write-index l.writes)) old (documents_at (trees_of g.S.Store l.initial.self) l.number) mid;
}
