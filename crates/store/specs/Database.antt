-- A database: the writes that it accepted, in order, its security object and its local documents; and its content, which is all that anybody sees of it.
-- CouchDB manual, api/database/changes (update sequence) and replication/conflicts (revision trees); that a database is what its writes made of it is this project's own way to say so.
use Rattle.std.specs.Prelude.{IsTrue, ◌≡◌, ℕ, ◌+◌, ◌≤◌, max, Bool, List, [], ◌∷◌, ◌++◌, length, map, filter, bytes_eq, Option, Some, None, if◌then◌else◌}
use Rattle.std.specs.Ordering.{nat_cmp}
use Rattle.std.specs.Cmp.Lexicographic.{slice_cmp}
use Rattle.std.specs.FinMap.{FinMap, get, insert, empty}
use Rattle.couch_json.specs.Value.{Value}
use Rattle.tree.specs.Revision.{Revision}
use Rattle.tree.specs.Write as tree
use Rattle.tree.specs.History.{HistoryContent, content_of, with_write, is_known}
use Rattle.store.specs.declared.local_document.LocalDocument.{LocalDocument}

-- finite maps from texts, by the bytes of their UTF-8
abbrev pub TextMap : Type 0 → Type 0
TextMap A = FinMap {K = List ℕ} (slice_cmp nat_cmp) A

-- a write of a document: its id, and what the write makes of its history
pub record DocumentWrite : Type 0 where
  pub id : List ℕ
  pub write : tree.Write

-- a database as the list of what happened to it
pub record Log : Type 0 where
  pub writes : List DocumentWrite
  pub security : Value
  pub locals : TextMap LocalDocument

-- a document as a database holds it
pub record Document : Type 0 where
  pub sequence : ℕ
  pub history : HistoryContent

-- the content of a database
pub record Database : Type 0 where
  -- how many writes it accepted: its update sequence
  pub length : ℕ
  pub security : Value
  pub locals : TextMap LocalDocument
  pub documents : TextMap Document

-- ---- a document, by the writes of its database

-- the write is one of the document of this id
abbrev pub is_write_of : List ℕ → DocumentWrite → Bool
is_write_of id w = bytes_eq w.id id

-- the document's writes, in order
abbrev pub writes_of : List ℕ → List DocumentWrite → List tree.Write
writes_of id ws = map (λ w. w.write) (filter (is_write_of id) ws)

-- the places, counted on from n, at which the document's writes stand
abbrev pub places_from : ℕ → List ℕ → List DocumentWrite → List ℕ
places_from n id [] = []
places_from n id (w ∷ ws) = if is_write_of id w then n ∷ places_from (n + 1) id ws else places_from (n + 1) id ws

abbrev pub greatest : List ℕ → ℕ
greatest [] = 0
greatest (n ∷ ns) = max n (greatest ns)

-- the place, counted from 1, of the document's last write
abbrev pub sequence_of : List ℕ → List DocumentWrite → ℕ
sequence_of id ws = greatest (places_from 1 id ws)

abbrev pub document_with : List tree.Write → ℕ → Option Document
document_with [] sequence = None
document_with (w ∷ ws) sequence = Some (record { sequence = sequence; history = content_of (w ∷ ws) })

-- the document that the writes made, where one of them is its own
abbrev pub document_of : List ℕ → List DocumentWrite → Option Document
document_of id ws = document_with (writes_of id ws) (sequence_of id ws)

-- the database has this content
pub record IsContentOf (log : Log) (db : Database) : Type 0 where
  pub length : db.length ≡ length log.writes
  pub security : db.security ≡ log.security
  pub locals : db.locals ≡ log.locals
  pub documents : (id : List ℕ) → get db.documents id ≡ document_of id log.writes

-- the log with one more write at its end
abbrev pub with_write_logged : Log → DocumentWrite → Log
with_write_logged log w = record log { writes = log.writes ++ w ∷ [] }

-- ---- what a write makes of the content

-- the history of a document; without the document an empty one
abbrev pub history_in : Option Document → HistoryContent
history_in None = empty
history_in (Some d) = d.history

-- the sequence of a document; 0 without the document
abbrev pub sequence_in : Option Document → ℕ
sequence_in None = 0
sequence_in (Some d) = d.sequence

-- the document's history, empty where it was never written
abbrev pub history_at : Database → List ℕ → HistoryContent
history_at db id = history_in (get db.documents id)

-- the document's sequence, 0 where it was never written
abbrev pub sequence_at : Database → List ℕ → ℕ
sequence_at db id = sequence_in (get db.documents id)

-- one more write: it takes the next sequence
abbrev pub with_one : Database → DocumentWrite → Database
with_one db w =
    record db {
      length = db.length + 1;
      documents = insert db.documents w.id (record { sequence = db.length + 1; history = with_write (history_at db w.id) w.write });
    }

-- a database after writes, one after the other
abbrev pub with_all : Database → List DocumentWrite → Database
with_all db [] = db
with_all db (w ∷ ws) = with_all (with_one db w) ws

-- a database to which nothing happened yet
abbrev pub empty_database : Value → Database
empty_database security = record { length = 0; security = security; locals = empty; documents = empty }

-- ---- later contents

-- the revision is known in the document of this id
abbrev pub IsKnownAt : Database → List ℕ → Revision → Type 0
IsKnownAt db id r = IsTrue (is_known (history_at db id) r)

-- What may have happened to a database since: it accepted more writes, forgot no revision, and a document whose sequence is not
-- above the old length is as it was.
pub record IsLater (old new : Database) : Type 0 where
  pub grown : old.length ≤ new.length
  pub known : (id : List ℕ) (r : Revision) → IsKnownAt old id r → IsKnownAt new id r
  pub unchanged : (id : List ℕ) → sequence_at new id ≤ old.length → get new.documents id ≡ get old.documents id

-- sequences lie from 1 to the length, and no two documents have the same
pub record HasSequences (db : Database) : Type 0 where
  pub positive : (id : List ℕ) (d : Document) → get db.documents id ≡ Some d → 1 ≤ d.sequence
  pub within : (id : List ℕ) (d : Document) → get db.documents id ≡ Some d → d.sequence ≤ db.length
  pub distinct : (id other : List ℕ) (d e : Document) → get db.documents id ≡ Some d → get db.documents other ≡ Some e → d.sequence ≡ e.sequence → id ≡ other
