-- The ranks of the indexes of a database are those of the keys of its documents.
use Rattle.std.specs.Result.{result_ok}
use Rattle.sqlstore.proofs.Common.{AllByRecursion, Err, Global, IfOk, IsWellFormed, List, Ok, Result, StoreFault, Trees, Vec, all_weaker, ℤ}
use Rattle.index.specs.Indexed.{IsIndexed}
use Rattle.index.specs.Shown.{declared}
use Rattle.sqlstore.proofs.IndexKeys.{ranks_linked, ranks_linked_back}
use Rattle.sqlstore.specs.inner.CountedKeys.{AreCounted, AreMoved, IsCounted, IsFound, IsMoved}
use Rattle.sqlstore.specs.inner.Keys.{AreIndexRanks, AreKnownRanks, IsIndexRanks}
use Rattle.sqlstore.specs.inner.Marks.{documents_at}
use Rattle.sqlstore.specs.declared.index_ranks.IndexRanks.{IndexRanks}
use Rattle.sqlstore.specs.declared.sql_store.key_marking.CountedKeys.{CountedKeys}

module _ (trees : Trees) (db : ℤ) (laid : IsWellFormed trees) (is : IsIndexed trees) where
  -- those that were found before a commit
  pub found_counted : (cs : List CountedKeys) → AllByRecursion (IsFound trees db) cs → AreCounted (documents_at trees db) cs
  found_counted =
      all_weaker (IsFound trees db) (IsCounted (documents_at trees db))
      (λ c found. (ranks_linked trees laid is db (declared c.ranks.declaration) found.0.index c.ranks.ranks found.0.ranks, found.1))

  -- and those that were moved after it
  pub moved_known : (rs : List IndexRanks) → AreMoved trees db rs → AreIndexRanks trees db rs
  moved_known =
      all_weaker (IsMoved trees db) (IsIndexRanks trees db)
      (λ r moved. record { index = moved.0; ranks = ranks_linked_back trees laid is db (declared r.declaration) moved.0 r.ranks moved.1 })

  -- the same where they were moved
  pub if_moved : (r : Result (Vec IndexRanks Global) StoreFault) → IfOk r (λ rs. AreMoved trees db rs.items) → AreKnownRanks trees db (result_ok r)
  if_moved (Ok rs) moved = moved_known rs.items moved
  if_moved (Err e) moved = tt
