-- Lawful databases: those that acceptable writes make, and so all that an honest store holds; and where a database's sequence ends.
-- CouchDB manual, replication/conflicts (revision trees) and api/database/changes (update sequence); that a store holds nothing else is this project's own promise.
use Rattle.std.specs.Prelude.{◌≡◌, ◌≤◌, ◌⊎◌, ℕ, List, [], ◌∷◌, ◌++◌, true, false, IsTrue, Some}
use Rattle.std.specs.List.{AllByRecursion}
use Rattle.std.specs.FinMap.{get}
use Rattle.couch_json.specs.Value.{Value, depth}
use Rattle.couch_json.specs.Parts.{is_object}
use Rattle.tree.specs.DocumentId.{is_local_id}
use Rattle.tree.specs.Revision.{greatest_number}
use Rattle.tree.specs.Write as tree
use Rattle.tree.specs.History.{HistoryContent, content_of}
use Rattle.store.specs.Contents.{AllAre, Contents, max_body_depth}
use Rattle.store.specs.Database.{Database, Document, HasSequences}
use Rattle.store.specs.SpecialMembers.{is_plain}
use Rattle.store.specs.declared.local_document.LocalDocument.{LocalDocument}

-- the body of a document: an object that is not nested too deep and has no special members
pub record IsBody (body : Value) : Type 0 where
  pub object : is_object body ≡ true
  pub shallow : depth body ≤ max_body_depth
  pub plain : is_plain body ≡ true

-- A local document has a local id, the number of a revision, and the body of a document. Numbers begin at 1, and the greatest is that of
-- other revisions.
pub record IsLocalDocument (id : List ℕ) (d : LocalDocument) : Type 0 where
  pub named : IsTrue (is_local_id id)
  pub first : 1 ≤ d.number
  pub last : d.number ≤ greatest_number
  pub body : IsBody d.body

-- the history is what a lawful list of writes made, one write at least, each with the body of a document
pub record IsWritten (h : HistoryContent) : Type 0 where
  pub before : List tree.Write
  pub last : tree.Write
  pub lawful : tree.AreLawfulWrites (before ++ last ∷ [])
  pub bodies : AllByRecursion (λ w. IsBody w.body) (before ++ last ∷ [])
  pub content : h ≡ content_of (before ++ last ∷ [])

-- each document was written lawfully, under an id that is no local one, the sequences lie from 1 to the length, each once, and local
-- documents are such
pub record IsLawfulDatabase (db : Database) : Type 0 where
  pub documents : (id : List ℕ) (d : Document) → get db.documents id ≡ Some d → IsWritten d.history
  pub apart : (id : List ℕ) (d : Document) → get db.documents id ≡ Some d → is_local_id id ≡ false
  pub sequences : HasSequences db
  pub locals : (id : List ℕ) (d : LocalDocument) → get db.locals id ≡ Some d → IsLocalDocument id d

-- each database is lawful
abbrev pub AreLawful : Contents → Type 0
AreLawful = AllAre IsLawfulDatabase

-- ---- where a database ends

-- a document stands at the database's own sequence: it was written last
pub record HasLast (db : Database) : Type 0 where
  pub id : List ℕ
  pub document : Document
  pub there : get db.documents id ≡ Some document
  pub sequence : document.sequence ≡ db.length

-- a database's sequence is that of its last document, or 0
abbrev pub EndsAtLast : Database → Type 0
EndsAtLast db = (db.length ≡ 0) ⊎ HasLast db

-- that of each database is
abbrev pub AllEndAtLast : Contents → Type 0
AllEndAtLast = AllAre EndsAtLast
