-- The revisions that a store over SQLite knows.
-- This server's own: a row of a revision has its number and its hash, and both are as a revision's text has them.
use Rattle.std.specs.Prelude.{◌≡◌, ℕ, List, Some, IsTrue}
use Rattle.std.specs.FinMap.{get}
use Rattle.sqlite_trees.specs.declared.store.Store.{Ghosts}
use Rattle.tree.specs.History.{is_known}
use Rattle.tree.specs.Revision.{Revision, is_revision}
use Rattle.store.specs.Database.{Database, history_at}
use Rattle.sqlstore.specs.Model.{contents_of, is_honest}
use Rattle.sqlstore.specs.declared.sql_store.SqlStore.{SqlStore}

-- each revision that an honest store knows can be written as text
abbrev pub RevisionsCanBeWritten : {S : Type 0} → Ghosts S → Type 0
RevisionsCanBeWritten {S} g =
    (s : SqlStore S g) → is_honest g s → (name id : List ℕ) (db : Database) (r : Revision) → get (contents_of g s) name ≡ Some db → IsTrue (is_known (history_at db id) r) → IsTrue (is_revision r)
