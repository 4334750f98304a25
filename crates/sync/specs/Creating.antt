-- A database that a pass creates where it is absent.
-- This project's own; a new database is closed to all but server admins, as after `PUT /{db}`.
use Rattle.std.specs.Prelude.{ℕ, is_some, List, if◌then◌else◌}
use Rattle.std.specs.FinMap as map
use Rattle.store.specs.Contents.{Contents, new_database}
use Rattle.store.specs.DatabaseName.{is_database_name}

-- the databases, and a new one of this name where there was none
abbrev pub with_absent : Contents → List ℕ → Contents
with_absent databases name = if is_some (map.get databases name) then databases else map.insert databases name new_database

-- the same for a text, which may be no name of a database
abbrev pub with_database : Contents → List ℕ → Contents
with_database databases text = if is_database_name text then with_absent databases text else databases
