-- What a transaction leaves of a connection.
-- This server's own: the words of a connection are those of the kit.
use Rattle.std.specs.Prelude.{◌≡◌, IsTrue, false, Result, OnErr, OnOk}
use Rattle.sqlite_trees.specs.declared.store.Store.{Ghosts}
use Rattle.sqlite.specs.Held.{Held, state}
use Rattle.sqlite.specs.State.{HasCleanDisk}

module _ {S : Type 0} (g : Ghosts S) where
  -- what a transaction leaves of a connection, however it ends and whatever the schema is
  pub record Turns (old new : Held S) : Type 0 where
    pub clean : HasCleanDisk (state g new) → HasCleanDisk (state g old)
    pub was_open : HasCleanDisk (state g new) → IsTrue (state g new).is_open → IsTrue (state g old).is_open
    pub idle : new.in_transaction ≡ false
    pub limit : new.step_limit ≡ old.step_limit

  -- it is committed, on a connection that was open and is
  abbrev pub IsDone : {X E : Type 0} → Held S → Held S → Result X E → Type 0
  IsDone old new r = HasCleanDisk (state g new) → OnOk r (IsTrue (state g old).is_open × IsTrue (state g new).is_open × ((state g new).now ≡ (state g new).committed))

  -- or undone
  abbrev pub IsUndone : {X E : Type 0} → Held S → Held S → Result X E → Type 0
  IsUndone old new r = HasCleanDisk (state g new) → IsTrue (state g new).is_open → OnErr r (((state g new).now ≡ (state g old).committed) × ((state g new).committed ≡ (state g old).committed))
