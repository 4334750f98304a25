-- What a pass appends to its target: writes that its documents say, and nothing else; and where these documents come from.
-- CouchDB manual, api/database/bulk-api (`new_edits` false) and api/document/common (`open_revs` with `revs`); the words are this project's own.
use Rattle.std.specs.Prelude.{◌≡◌, ◌⊎◌, ℕ, List, [], ◌∷◌, Option, Some, true}
use Rattle.std.specs.List.{AllByRecursion}
use Rattle.couch_json.specs.Value.{Value}
use Rattle.tree.specs.History.{chain, held_of}
use Rattle.tree.specs.Revision.{Revision}
use Rattle.tree.specs.Write.{held_of_write}
use Rattle.store.specs.Contents.{AreAcceptable}
use Rattle.store.specs.Database.{Database, DocumentWrite, IsKnownAt, history_at, with_all}
use Rattle.read.specs.Shown.{shown_document}
use Rattle.write.specs.Document.{Ancestry, ancestry_in, id_in, sent_in, sent_with}
use Rattle.replication.specs.Sound.{Agree, IsSound}

-- no document was written: local documents and the security object may have changed
pub record KeepsDocuments (old new : Database) : Type 0 where
  pub length : new.length ≡ old.length
  pub documents : new.documents ≡ old.documents

-- the write is what the document says: under its id, at the end of the path that it comes with, with its mark and its body
pub record IsSaidBy (v : Value) (w : DocumentWrite) : Type 0 where
  pub rev : Option Revision
  pub ancestry : Ancestry
  pub named : id_in v ≡ Some w.id
  pub says : sent_in w.id v ≡ Some (sent_with (rev, w.write.deleted) w.write.body)
  pub leads : ancestry_in v rev ≡ Some ancestry
  pub path : w.write.path ≡ ancestry.path

-- one of these documents says the write
abbrev pub IsSaidByOne : List Value → DocumentWrite → Type 0
IsSaidByOne [] w = ⊥
IsSaidByOne (v ∷ vs) w = IsSaidBy v w ⊎ IsSaidByOne vs w

-- Some writes were appended, and nothing else became of the documents: each of them is said by one of these documents, and was
-- acceptable when its turn came.
pub record Appends (documents : List Value) (old new : Database) : Type 0 where
  pub writes : List DocumentWrite
  pub said : AllByRecursion (IsSaidByOne documents) writes
  pub acceptable : AreAcceptable old writes
  pub left : KeepsDocuments (with_all old writes) new

-- ---- where documents come from

-- the database shows the document as one of its revisions, under this id and with its path
pub record IsShownBy (db : Database) (id : List ℕ) (v : Value) : Type 0 where
  pub rev : Revision
  pub is : shown_document id (history_at db id) rev true ≡ Some v

-- The write makes a revision that the database holds: its path is the one there, and so are its mark and its body.
pub record ComesFrom (db : Database) (w : DocumentWrite) : Type 0 where
  pub rev : Revision
  pub path : chain (history_at db w.id) rev ≡ Some w.write.path
  pub held : held_of (history_at db w.id) rev ≡ Some (held_of_write w.write)

-- A database after writes from a source: it is sound, and agrees with the source. Whatever it knows now it knew before, or the source knows it.
pub record IsReplica (source old new : Database) : Type 0 where
  pub sound : IsSound new
  pub agree : Agree source new
  pub known : (id : List ℕ) (r : Revision) → IsKnownAt new id r → IsKnownAt old id r ⊎ IsKnownAt source id r
