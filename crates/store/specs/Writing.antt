-- What the `Write`s of the code say, and which writes they are in a database.
-- This crate's own: it ties the struct to the definition of `Database`. A write of the code names what is new and the known revision that it follows; the history before it gives the rest of its path.
use Rattle.std.specs.Prelude.{ℕ, Bool, List, [], ◌∷◌, ◌++◌, map, Option}
use Rattle.couch_json.specs.Value.{Value}
use Rattle.couch_json.specs.View.{view}
use Rattle.tree.specs.Revision.{Revision}
use Rattle.tree.specs.History.{HistoryContent, ancestors_of_parent}
use Rattle.store.specs.Database.{Database, DocumentWrite, history_at, with_one}
use Rattle.store.specs.declared.write.Write.{Write}

-- what a write of the code says by itself
pub record Addition : Type 0 where
  pub id : List ℕ
  -- the new revision and those behind it that the write brings, newest first
  pub path : List Revision
  -- the revision that the last of them follows, where that is not a first one
  pub parent : Option Revision
  pub deleted : Bool
  pub body : Value

abbrev pub addition_of : Write → Addition
addition_of w = record { id = w.id; path = w.path.items; parent = w.parent; deleted = w.deleted; body = view w.body }

abbrev pub additions : List Write → List Addition
additions ws = map addition_of ws

-- the write that it is of a document with this history: its path goes on with what stands behind its parent
abbrev pub written_in : HistoryContent → Addition → DocumentWrite
written_in h a = record { id = a.id; write = record { path = a.path ++ ancestors_of_parent h a.parent; deleted = a.deleted; body = a.body } }

-- the write that it is in this database
abbrev pub written_at : Database → Addition → DocumentWrite
written_at db a = written_in (history_at db a.id) a

-- the writes that they are, each in the database that those before it left
abbrev pub writings_in : Database → List Addition → List DocumentWrite
writings_in db [] = []
writings_in db (a ∷ more) = written_at db a ∷ writings_in (with_one db (written_at db a)) more
