-- What a check leaves of a connection, and why it fails.
-- This server's own words for the states of a connection, which are those of the kit's SQLite.
use Rattle.std.specs.Prelude.{◌≡◌, ◌≤◌, ◌⊎◌, ⊤, Result, IfErr, IfOk, OnOk, IsTrue}
use Rattle.sqlite.specs.Effect.{Database}
use Rattle.sqlite.specs.Held.{Held, state}
use Rattle.sqlite.specs.State.{HasCleanDisk, KeepsCommit, State}
use Rattle.sqlite_trees.specs.Tree.{Trees}
use Rattle.sqlite_trees.specs.declared.store.Store.{Ghosts}
use Rattle.file_check.specs.Refusals.{IsRefusal}
use Rattle.tables.specs.Schema.{schema}
use Rattle.tables.specs.Steps.{Asks}
use Rattle.file_check.specs.declared.finding.CheckFault.{CheckFault}
use Rattle.file_check.specs.declared.finding.CheckFault.TheVariants.{Memory, Sqlite}

-- the connection has the rows that it had, open or not, in a transaction or not
pub record IsSame (old new : State) : Type 0 where
  pub now : new.now ≡ old.now
  pub committed : new.committed ≡ old.committed
  pub mode : new.in_transaction ≡ old.in_transaction
  pub is_open : new.is_open ≡ old.is_open

-- Why a check comes to no end where the schema is ours: memory ran out, or the library refused a query.
abbrev pub IsCause : State → State → CheckFault → Type 0
IsCause old new Memory = ⊤
IsCause old new (Sqlite e) = IsRefusal old new e

-- it fails for no other cause
abbrev pub FailsOnly : {S X : Type 0} → Ghosts S → Held S → Held S → Result X CheckFault → Type 0
FailsOnly g old new r = old.schema ≡ schema → HasCleanDisk (state g new) → IfErr r (IsCause (state g old) (state g new))

-- What that needs of each part of a check: what ends well leaves the connection as it was, and no failure of the disk is forgotten.
pub record Accounts {S X : Type 0} (g : Ghosts S) (old new : Held S) (r : Result X CheckFault) : Type 0 where
  pub failed : FailsOnly g old new r
  pub same : old.schema ≡ schema → HasCleanDisk (state g new) → OnOk r (IsSame (state g old) (state g new))
  pub counts : old.schema ≡ schema → HasCleanDisk (state g new) → (state g old).faults ≤ (state g new).faults

-- the rows are as they were, or as the last commit left them; and nothing was committed
pub record LeavesRows (old new : State) : Type 0 where
  pub rows : IsTrue new.is_open → (new.now ≡ old.now) ⊎ (new.now ≡ old.committed)
  pub kept : KeepsCommit old new

-- What a check tells where the tables are fit for it, and what it leaves: if it ends well the connection is as it was. However it ends, nothing is written.
pub record Checks {S X E : Type 0} (g : Ghosts S) (IsFit : Database → Type 0) (old new : Held S) (Tells : Trees → X → Type 0) (r : Result X E) : Type 0 where
  pub tells : HasCleanDisk (state g new) → IsFit (state g old).now → IfOk r (Tells (state g old).now.trees)
  pub stays : HasCleanDisk (state g new) → IsFit (state g old).now → OnOk r (IsSame (state g old) (state g new))
  pub leaves : HasCleanDisk (state g new) → IsFit (state g old).now → LeavesRows (state g old) (state g new)
  pub asks : Asks (state g old) (state g new)
