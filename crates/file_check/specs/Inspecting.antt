-- What a check reads of a connection, in one statement or in many.
-- This server's own, over `Calls` of `tables`.
use Rattle.std.specs.Prelude.{◌≡◌, ◌⊎◌, Result, IfOk, OnOk, IsTrue}
use Rattle.sqlite_trees.specs.declared.store.Store.{Ghosts}
use Rattle.sqlite_trees.specs.Tree.{Trees}
use Rattle.sqlite.specs.Effect.{Database}
use Rattle.sqlite.specs.Held.{Held, state}
use Rattle.sqlite.specs.State.{HasCleanDisk, IsUnchanged}
use Rattle.tables.specs.Calls.{IsServed, KeepsConnection}
use Rattle.tables.specs.Schema.{schema}
use Rattle.tables.specs.Steps.{Asks}
use Rattle.file_check.specs.Checks.{Accounts}
use Rattle.file_check.specs.declared.finding.CheckFault.{CheckFault}

-- What is found is so where the tables are fit for it. What ends well leaves the connection as it is; however it ends, the rows are as they were, or as the last commit left them, and each failure is accounted for.
pub record Inspects {S X : Type 0} (g : Ghosts S) (IsFit : Database → Type 0) (old new : Held S) (Is : Trees → X → Type 0) (r : Result X CheckFault) : Type 0 where
  pub found : HasCleanDisk (state g new) → IsFit (state g old).now → IfOk r (Is (state g old).now.trees)
  pub served : IsServed g old new r
  pub stands : KeepsConnection g old new r
  pub looks : old.schema ≡ schema → HasCleanDisk (state g new) → IsTrue (state g new).is_open → ((state g new).now ≡ (state g old).now) ⊎ ((state g new).now ≡ (state g old).committed)
  pub asks : Asks (state g old) (state g new)
  pub accounts : Accounts g old new r

-- The same of what may read nothing: it is said of an open connection.
pub record Goes {S X : Type 0} (g : Ghosts S) (IsFit : Database → Type 0) (old new : Held S) (Is : Trees → X → Type 0) (r : Result X CheckFault) : Type 0 where
  pub found : HasCleanDisk (state g new) → IsTrue (state g old).is_open → IsFit (state g old).now → IfOk r (Is (state g old).now.trees)
  pub stands : old.schema ≡ schema → HasCleanDisk (state g new) → IsTrue (state g old).is_open → OnOk r (IsUnchanged (state g old) (state g new))
  pub looks : old.schema ≡ schema → HasCleanDisk (state g new) → IsTrue (state g old).is_open → IsTrue (state g new).is_open → ((state g new).now ≡ (state g old).now) ⊎ ((state g new).now ≡ (state g old).committed)
  pub asks : Asks (state g old) (state g new)
  pub accounts : Accounts g old new r
