-- What a store that is opened from a file has of it.
-- What files hold, and what is found in them, are the kit's definitions of SQLite's files; the rest is this project's own.
use Rattle.std.specs.Prelude.{◌≡◌}
use Rattle.std.specs.FinMap.{empty}
use Rattle.sqlite_disk.specs.declared.Disk.{Ghosts}
use Rattle.sqlite.specs.declared.FileStore.{FileStore}
use Rattle.sqlite.specs.Files.{file_state, over_files}
use Rattle.sqlite.specs.Held.{Held, state}
use Rattle.sqlite.specs.Recovery.{Image}
use Rattle.sqlite.specs.Start.{FindsIn}
use Rattle.sqlite.specs.State.{HasCleanDisk}
use Rattle.sqlite_trees.specs.declared.store.Store.{Ghosts as Below}
use Rattle.transactions.specs.Indexing.{IsCommittedStore}
use Rattle.tables.specs.Layout.{IsFirstStore}
use Rattle.tables.specs.Rows.{contents_in}
use Rattle.tables.specs.Schema.{no_schema}
use Rattle.sqlstore.specs.Model.{contents_of, is_clean, is_honest}
use Rattle.sqlstore.specs.declared.sql_store.SqlStore.{SqlStore}

-- The tables of a connection were opened. Where they were a store's, with the rows of its indexes, it is opened as it was; one of the first version is
-- opened with the databases that it held; where there was nothing, there is no database.
pub record IsOpenedOver {S : Type 0} (g : Below S) (was : Held S) (s : SqlStore S g) : Type 0 where
  pub clean : is_clean g s → HasCleanDisk (state g was)
  pub opened : is_clean g s → IsCommittedStore (state g was).now → is_honest g s × (contents_of g s ≡ contents_in (state g was).now.trees)
  pub carried : is_clean g s → IsFirstStore (state g was).now → is_honest g s × (contents_of g s ≡ contents_in (state g was).now.trees)
  pub made : is_clean g s → was.schema ≡ no_schema → is_honest g s × (contents_of g s ≡ empty)

-- The files were opened, and the connection found what they held. Where that was a store, with the rows of its indexes, it is opened as it was; one of the first version
-- is opened with the databases that it held; where it was nothing, there is no database.
pub record IsOpenedFrom {D : Type 0} {g : Ghosts D} (image : Image) (s : SqlStore (FileStore D g) over_files) : Type 0 where
  pub was : Held (FileStore D g)
  pub found : FindsIn image (file_state was)
  pub opened : IsCommittedStore (file_state was).now → is_honest over_files s × (contents_of over_files s ≡ contents_in (file_state was).now.trees)
  pub carried : IsFirstStore (file_state was).now → is_honest over_files s × (contents_of over_files s ≡ contents_in (file_state was).now.trees)
  pub made : was.schema ≡ no_schema → is_honest over_files s × (contents_of over_files s ≡ empty)
