use Rattle.sqlstore.proofs.Common.{Stands, is_honest, trees_of}
use Rattle.sqlstore.specs.inner.Keys.{AreKeys}
use Rattle.sqlstore.specs.inner.Marks.{documents_at}
use Rattle.sqlstore.proofs.sql_store.SqlStore.find_keys.Given as goal

-- the store stands as it was, and the keys are those of its documents
abbrev pub invariant-loop-write : goal.invariant-loop-write
invariant-loop-write g l = record {
  stands : Stands g.S.Store l.initial.self l.self;
  keys : is_honest g.S.Store l.self → AreKeys l.fields l.keys (documents_at (trees_of g.S.Store l.initial.self) l.number);
}
