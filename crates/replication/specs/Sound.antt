-- Databases that agree, and what is asked of a database that takes part in replication both ways.
-- CouchDB manual, replication/conflicts (revision trees); the words are this project's own.
use Rattle.std.specs.Prelude.{◌≡◌, ℕ, false, List, Some, IsTrue}
use Rattle.std.specs.FinMap.{get}
use Rattle.tree.specs.DocumentId.{is_local_id}
use Rattle.tree.specs.Revision.{Revision, is_revision}
use Rattle.store.specs.Database.{Database, Document, HasSequences, IsKnownAt, history_at}
use Rattle.store.specs.Lawful.{IsWritten}
use Rattle.replication.specs.Agreement.{Agrees}

-- the histories of each document agree
abbrev pub Agree : Database → Database → Type 0
Agree a b = (id : List ℕ) → Agrees (history_at a id) (history_at b id)

-- ---- a database that takes part

-- each known revision can be written as text
abbrev pub AreWritable : Database → Type 0
AreWritable db = (id : List ℕ) (r : Revision) → IsKnownAt db id r → IsTrue (is_revision r)

-- Each document is what lawful writes made of it, under an id that is no local one, with a sequence of its own, as in each lawful database;
-- and revisions can be written.
pub record IsSound (db : Database) : Type 0 where
  pub documents : (id : List ℕ) (d : Document) → get db.documents id ≡ Some d → IsWritten d.history
  pub apart : (id : List ℕ) (d : Document) → get db.documents id ≡ Some d → is_local_id id ≡ false
  pub sequences : HasSequences db
  pub writable : AreWritable db
