-- Why what a connection holds is not opened as a store, and which fault an error of SQLite is then.
-- This server's own: tables go by their names, and a file by the version in its one row of `meta`.
use Rattle.std.specs.Prelude.{◌≡◌, ◌≢◌, ◌⊎◌, [], false, true}
use Rattle.sqlite.specs.Effect.{Database}
use Rattle.sqlite.specs.Held.{Held, state}
use Rattle.sqlite.specs.State.{FailsToQuery, HasCleanDisk}
use Rattle.sqlite.specs.declared.error.Error.{Error}
use Rattle.sqlite.specs.declared.error.Error.TheVariants.{SqliteFailure}
use Rattle.sqlite.specs.declared.error.ErrorCode.TheVariants.{OutOfMemory}
use Rattle.sqlite_schema.specs.declared.schema.Schema.{Schema}
use Rattle.sqlite_trees.specs.declared.store.Store.{Ghosts}
use Rattle.tables.specs.Layout.{IsFirstStore}
use Rattle.tables.specs.Presence.{has_all, has_any, version_in, version_text}
use Rattle.tables.specs.Schema.{meta_tree, schema}
use Rattle.tables.specs.declared.meta.FileVersion.{FileVersion}
use Rattle.tables.specs.declared.meta.FileVersion.TheVariants.{First, Other}
use Rattle.sqlstore.specs.declared.open_fault.OpenFault.{OpenFault}
use Rattle.sqlstore.specs.declared.open_fault.OpenFault.TheVariants.{Failed, Memory, NotOurs}

-- the version that the row of `meta` says, or Other where that is no such row
abbrev pub version_of : Database → FileVersion
version_of db = version_in (db.trees meta_tree)

-- some of the tables are there, and some are missing
abbrev pub IsPart : Schema → Type 0
IsPart tables = (has_any tables ≡ true) × (has_all tables ≡ false)

-- the row of `meta` is none, or says neither version; or it says the first, and the rows are not laid out as those of such a file
abbrev pub IsUnreadable : Database → Type 0
IsUnreadable db = (version_of db ≡ Other) ⊎ ((version_of db ≡ First) × ¬ (IsFirstStore db))

-- the fault that an error of SQLite is: memory ran out, or the library failed otherwise; no error says that the tables are not ours
abbrev pub IsErrorOf : Error → OpenFault → Type 0
IsErrorOf e Memory = e ≡ SqliteFailure OutOfMemory
IsErrorOf e Failed = e ≢ SqliteFailure OutOfMemory
IsErrorOf e NotOurs = ⊥

module _ {S : Type 0} (g : Ghosts S) where
  -- Tables of these names are there that are no store: some alone; or all, and if they have the columns of a store, their rows say so.
  abbrev pub IsForeign : Held S → Held S → Type 0
  IsForeign old new = IsPart old.schema ⊎ ((has_all old.schema ≡ true) × (HasCleanDisk (state g new) → old.schema ≡ schema → IsUnreadable (state g old).now))

  -- the version could not be read: the library refused the statement with an error that is this fault
  abbrev pub FailsToRead : Held S → Held S → OpenFault → Type 0
  FailsToRead old new fault = (e : Error) × FailsToQuery version_text [] (state g old) (state g new) e × IsErrorOf e fault
