-- Why the library refuses a query of this server, where the schema is ours.
-- This server's own, over the kit's words for what a statement does. The causes are those of SQLite's result codes (rescode: SQLITE_NOMEM,
-- SQLITE_IOERR, SQLITE_CORRUPT, SQLITE_FULL, SQLITE_INTERRUPT).
use Rattle.std.specs.Prelude.{◌≡◌, ◌⊎◌, Result, IfErr, IsSome}
use Rattle.sqlite.specs.Held.{Held, state}
use Rattle.sqlite.specs.State.{HasCause, HasCleanDisk, State, store_error}
use Rattle.sqlite.specs.declared.error.Error.{Error}
use Rattle.sqlite.specs.declared.error.Error.TheVariants.{SqliteFailure}
use Rattle.sqlite.specs.declared.error.ErrorCode.TheVariants.{OperationInterrupted}
use Rattle.sqlite_trees.specs.View.{Tells}
use Rattle.sqlite_trees.specs.declared.error.StoreError.{StoreError}
use Rattle.sqlite_trees.specs.declared.store.Store.{Ghosts}
use Rattle.tables.specs.Schema.{schema}

module _ (old new : State) where
  -- What the connection stands on failed since: memory ran out, or the disk failed or had no room, and is counted for it. Or it had shut the connection before.
  pub record IsStoreFailure (e : Error) : Type 0 where
    pub cause : StoreError
    pub named : e ≡ store_error cause
    pub caused : HasCause old new ⊥ cause
    pub told : Tells new.blamed cause

  -- that, or the limit on steps was met, if there is one
  abbrev pub IsRefusal : Error → Type 0
  IsRefusal e = IsStoreFailure e ⊎ ((e ≡ SqliteFailure OperationInterrupted) × IsSome old.step_limit)

-- nothing else is refused where the schema is ours
abbrev pub RefusesOnly : {S X : Type 0} → Ghosts S → Held S → Held S → Result X Error → Type 0
RefusesOnly g old new r = old.schema ≡ schema → HasCleanDisk (state g new) → IfErr r (IsRefusal (state g old) (state g new))
