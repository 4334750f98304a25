-- The contents of a store: its databases by name; what a change makes of one, and which writes a store may be given to accept.
-- CouchDB manual, api/server/common (`/_all_dbs`), api/database and api/local; this project's own words for what a store is.
use Rattle.std.specs.Prelude.{◌≡◌, ◌≤◌, ℕ, List, [], ◌∷◌, ◌++◌, codes, decimal, true, false, Option, Some, None, Ok, ⊤}
use Rattle.std.specs.FinMap.{get, insert}
use Rattle.couch_json.specs.Value.{Value, depth}
use Rattle.couch_json.specs.Parts.{is_object}
use Rattle.policy.specs.Security.{closed_security}
use Rattle.tree.specs.DocumentId.{is_local_id}
use Rattle.tree.specs.History.{placement}
use Rattle.tree.specs.declared.placement.Placed.TheVariants.{Added}
use Rattle.store.specs.Database.{TextMap, Database, DocumentWrite, history_at, with_one, empty_database}
use Rattle.store.specs.SpecialMembers.{is_plain}
use Rattle.store.specs.declared.local_document.LocalDocument.{LocalDocument}

-- databases by their names
abbrev pub Contents : Type 0
Contents = TextMap Database

-- a new database: no document, and closed to all but server admins
abbrev pub new_database : Database
new_database = empty_database closed_security

-- the database's security object
abbrev pub with_security : Database → Value → Database
with_security db security = record db { security = security }

-- the text of a local document's revision: `0-N`
abbrev pub local_revision : ℕ → List ℕ
local_revision number = codes "0-" ++ decimal number

-- the local document of this id, if there is one
abbrev pub local_at : Database → List ℕ → Option LocalDocument
local_at db id = get db.locals id

-- the database with this local document, in the place of the one of its id
abbrev pub with_local : Database → List ℕ → LocalDocument → Database
with_local db id document = record db { locals = insert db.locals id document }

-- how deep the body of a document may nest
abbrev pub max_body_depth : ℕ
max_body_depth = 100

-- the write may be appended: its id is no local one, its path is whole, its head is not known yet, it gives no known revision another
-- parent, and its body is an object that is not nested too deep and has no special members
pub record IsAcceptable (db : Database) (w : DocumentWrite) : Type 0 where
  pub apart : is_local_id w.id ≡ false
  pub placed : placement (history_at db w.id) w.write.path ≡ Ok Added
  pub body : is_object w.write.body ≡ true
  pub shallow : depth w.write.body ≤ max_body_depth
  pub plain : is_plain w.write.body ≡ true

-- each of them may, once those before it have been
abbrev pub AreAcceptable : Database → List DocumentWrite → Type 0
AreAcceptable db [] = ⊤
AreAcceptable db (w ∷ ws) = IsAcceptable db w × AreAcceptable (with_one db w) ws

-- a fact about each database
abbrev pub AllAre : (Database → Type 0) → Contents → Type 0
AllAre fact contents = (name : List ℕ) (db : Database) → get contents name ≡ Some db → fact db

-- a fact about the database, where there is one
abbrev pub IfThere : Option Database → (Database → Type 0) → Type 0
IfThere None fact = ⊤
IfThere (Some db) fact = fact db

-- there is a database, and the fact holds of it
abbrev pub IsThereWith : Option Database → (Database → Type 0) → Type 0
IsThereWith None fact = ⊥
IsThereWith (Some db) fact = fact db
