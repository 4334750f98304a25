-- A write whose history is read for it, and that is not done.
use Rattle.transactions.proofs.Common.{Addition, AsksInside, CommitFault, Err, HasBest, HasCleanDisk, Held, HistoryContent, IsSound, IsStore, IsUnwritten, Ok, Proceeds, Result, Trees, arith, history_with, state, subst, sym, ℤ, ◌≡◌}
use Rattle.sqlite_trees.specs.declared.store.Store.{Ghosts}
use Rattle.tables.specs.Calls.{LooksInside}
use Rattle.transactions.proofs.Committing.{asks_changed, asks_then, unwritten_of}
use Rattle.transactions.proofs.Readers.{looks_next}
use Rattle.transactions.specs.inner.Calls.{Finds, LoadsAndWrites, open_in}

module _ {S : Type 0} (g : Ghosts S) (db : ℤ) (w : Addition) {X : Type 0} (Tells : HistoryContent → X → Type 0) (Holds : Trees → Type 0) where
  -- what it leaves
  pub load_failed : (a b : Held S) (fault : CommitFault) (r : Result X CommitFault) → r ≡ Err fault → LooksInside g a b → AsksInside (state g a) (state g b)
      → IsUnwritten (IsSound g (λ trees. Holds trees × HasBest (history_with trees db w)) a b) fault → LoadsAndWrites g Tells Holds db w a b r
  load_failed a b fault r is looks asks told =
      subst (LoadsAndWrites g Tells Holds db w a b) (sym is) (record { after = λ clean store. tt; err = told; lawful = tt; inside = λ clean. tt; looks = looks; asks = asks })

  -- nothing is read
  pub load_unread : {Y : Type 0} {Is : Trees → Y → Type 0} (Later : Trees → Type 0) (a b : Held S) (fault : CommitFault) (r : Result X CommitFault) → r ≡ Err fault → ((trees : Trees) → Holds trees → Later trees)
      → Finds g {X = Y} Later Is a b (Err fault) → LoadsAndWrites g Tells Holds db w a b r
  load_unread Later a b fault r is so read =
      load_failed a b fault r is read.looks read.asks
      (unwritten_of (IsSound g Later a b) (IsSound g (λ trees. Holds trees × HasBest (history_with trees db w)) a b) fault (λ it. (it.0, λ up. let had = it.1 up in (had.0, so _ had.1.0))) read.err)

  -- a history is read, by which the statements are not all run
  pub load_unput : {Y : Type 0} {Any : Trees → Type 0} {Is : Trees → Y → Type 0} {y : Y} (a b c : Held S) (read : Finds g Any Is a b (Ok y)) (fault : CommitFault) (r : Result X CommitFault) → r ≡ Err fault
      → (Best : Type 0) → (IsStore (open_in g a) → HasBest (history_with (open_in g a).trees db w) → Is (open_in g a).trees y → Best) → Proceeds (state g b) (state g c) → IsUnwritten Best fault → LoadsAndWrites g Tells Holds db w a c r
  load_unput a b c read fault r is Best so proceeds told =
      load_failed a c fault r is (looks_next g read c (λ has. proceeds) (asks_changed (state g b) (state g c) proceeds)) (asks_then (state g a) (state g b) (state g c) read.asks (asks_changed (state g b) (state g c) proceeds))
      (unwritten_of Best (IsSound g (λ trees. Holds trees × HasBest (history_with trees db w)) a c) fault
      (λ it.
      let was : HasCleanDisk (state g b) = omega (arith, proceeds.survives.clean, it.0) in
      let had = it.1 (read.served was) in
      so had.0 had.1.1 (read.ok was had.0)) told)
