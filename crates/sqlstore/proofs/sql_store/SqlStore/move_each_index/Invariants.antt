use Rattle.sqlstore.proofs.Common.{Document, IsKnown, Stands, TextMap, is_honest, trees_of}
use Rattle.std.specs.Vec.Iter.{into_iter_items}
use Rattle.sqlstore.specs.inner.CountedKeys.{AreCounted, AreMoved}
use Rattle.sqlstore.specs.inner.Marks.{KeepsElsewhere, documents_at, ids_of}
use Rattle.sqlstore.proofs.sql_store.SqlStore.move_each_index.Given as goal

-- the store stands as it was; where the ranks were those of old documents, those that are left are, and those that were moved are those of the new ones
abbrev pub invariant-loop-one : goal.invariant-loop-one
invariant-loop-one g l = record {
  stands : Stands g.S.Store l.initial.self l.self;
  left : (old : TextMap Document) → AreCounted old l.fn.counted.items → AreCounted old (into_iter_items l.one-iterator);
  so_far : is_honest g.S.Store l.self → IsKnown (trees_of g.S.Store l.initial.self) l.known → (old : TextMap Document) → AreCounted old l.fn.counted.items
      → KeepsElsewhere (ids_of l.writes) old (documents_at (trees_of g.S.Store l.initial.self) l.number)
      → AreMoved (trees_of g.S.Store l.initial.self) l.number l.moved.items;
}
