use Rattle.sqlstore.proofs.Common.{AllByRecursion, Stands, is_honest, trees_of}
use Rattle.std.specs.Vec.Iter.{into_iter_items}
use Rattle.sqlstore.specs.inner.CountedKeys.{IsFound}
use Rattle.sqlstore.specs.inner.Keys.{AreIndexRanks}
use Rattle.sqlstore.proofs.sql_store.SqlStore.find_all_keys.Given as goal

-- the store stands as it was; where the ranks are those of indexes, those that are left are, and the keys that were found are those of documents
abbrev pub invariant-loop-ranks : goal.invariant-loop-ranks
invariant-loop-ranks g l = record {
  stands : Stands g.S.Store l.initial.self l.self;
  left : AreIndexRanks (trees_of g.S.Store l.initial.self) l.number l.fn.all.items → AreIndexRanks (trees_of g.S.Store l.initial.self) l.number (into_iter_items l.ranks-iterator);
  so_far : is_honest g.S.Store l.self → AreIndexRanks (trees_of g.S.Store l.initial.self) l.number l.fn.all.items → AllByRecursion (IsFound (trees_of g.S.Store l.initial.self) l.number) l.found.items;
}
