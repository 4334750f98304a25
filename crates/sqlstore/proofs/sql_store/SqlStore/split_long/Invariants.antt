use Rattle.ranks.specs.Counts.{AreRanksOf}
use Rattle.sqlstore.specs.inner.Listing.{live_ids}
use Rattle.sqlstore.specs.Model.{Stands, is_honest, trees_of}
use Rattle.sqlstore.proofs.sql_store.SqlStore.split_long.Given as goal

-- the store stands as it was, and the ranks are those of the same ids
abbrev pub invariant-loop-count : goal.invariant-loop-count
invariant-loop-count g l = record {
  stands : Stands g.S.Store l.initial.self l.self;
  ranks : is_honest g.S.Store l.self → AreRanksOf l.initial.ranks (live_ids (trees_of g.S.Store l.initial.self) l.number) → AreRanksOf l.ranks (live_ids (trees_of g.S.Store l.initial.self) l.number);
}
