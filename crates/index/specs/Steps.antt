-- What a step of a change leaves, within a transaction.
-- This server's own: what a step gives is stated where the tables are fit for it; so steps one after another are one step.
use Rattle.std.specs.Prelude.{◌≡◌, true, IsTrue, Result, OnOk}
use Rattle.sqlite.specs.Effect.{Database}
use Rattle.sqlite.specs.Held.{Held, state}
use Rattle.sqlite.specs.State.{HasCleanDisk, KeepsCommit}
use Rattle.sqlite_trees.specs.declared.store.Store.{Ghosts}
use Rattle.tables.specs.Calls.{AsksInside, KeepsSchema}
use Rattle.tables.specs.Schema.{schema}

-- Where the tables are fit for it, it gives what it gives. Whatever their rows are, the schema stays ours, nothing is committed, and if it ends well
-- the transaction goes on.
pub record Steps {S X E : Type 0} (g : Ghosts S) (IsFit : Database → Type 0) (Gives : Database → Database → Type 0) (old new : Held S) (r : Result X E) : Type 0 where
  pub ok : HasCleanDisk (state g new) → IsFit (state g old).now → OnOk r (Gives (state g old).now (state g new).now)
  pub keeps : KeepsSchema g old new r
  pub kept : HasCleanDisk (state g new) → old.schema ≡ schema → KeepsCommit (state g old) (state g new)
  pub goes_on : HasCleanDisk (state g new) → old.schema ≡ schema → IsTrue (state g old).is_open → (state g old).in_transaction ≡ true → OnOk r (IsTrue (state g new).is_open × ((state g new).in_transaction ≡ true))
  pub asks : AsksInside g old new

-- the disk returned what was written, and the tables of an open connection were fit
abbrev pub WasFit : {S : Type 0} → Ghosts S → (Database → Type 0) → Held S → Held S → Type 0
WasFit g IsFit old new = HasCleanDisk (state g new) × (IsTrue (state g old).is_open → IsFit (state g old).now)

-- the disk returned what was written, and the tables were fit
abbrev pub AreFit : {S : Type 0} → Ghosts S → (Database → Type 0) → Held S → Held S → Type 0
AreFit g IsFit old new = HasCleanDisk (state g new) × IsFit (state g old).now
