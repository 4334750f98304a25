-- What a planned change makes of its database, and when it may be made; and what becomes of a value that is to be a security object.
-- CouchDB manual, api/database/security (`PUT /{db}/_security`); that a plan is made before anything changes is this project's own.
use Rattle.std.specs.Prelude.{◌≡◌, ℕ, List, [], map, Result, Ok, Err, ⊤, if◌then◌else◌}
use Rattle.couch_json.specs.Value.{Value}
use Rattle.policy.specs.Security.{is_security}
use Rattle.store.specs.Contents.{AreAcceptable, with_local, with_security}
use Rattle.store.specs.Database.{Database, DocumentWrite, with_all}
use Rattle.store.specs.Lawful.{IsLocalDocument}
use Rattle.store.specs.Writing.{additions, writings_in}
use Rattle.store.specs.declared.local_document.LocalDocument.{LocalDocument}
use Rattle.write.specs.Bulk.{DocumentOutcome, all_told, writes_in}
use Rattle.write.specs.BulkResults.{told_of}
use Rattle.write.specs.declared.fault.WriteFault.{WriteFault}
use Rattle.write.specs.declared.fault.WriteFault.TheVariants.{BadDocument}
use Rattle.write.specs.declared.planned.Changes.{Changes}
use Rattle.write.specs.declared.planned.Changes.TheVariants.{Writes, Security, Local}
use Rattle.write.specs.declared.planned.Planned.{Planned}

-- the writes that are planned for this database
abbrev pub planned_writes : Database → Changes → List DocumentWrite
planned_writes db (Writes ws) = writings_in db (additions ws.items)
planned_writes db (Security s) = []
planned_writes db (Local id document) = []

-- the database once the changes are made
abbrev pub database_after : Changes → Database → Database
database_after (Writes ws) db = with_all db (writings_in db (additions ws.items))
database_after (Security s) db = with_security db s
database_after (Local id document) db = with_local db id document

-- the changes are writes
abbrev pub AreWrites : Changes → Type 0
AreWrites (Writes ws) = ⊤
AreWrites (Security s) = ⊥
AreWrites (Local id document) = ⊥

-- the change is a local document
abbrev pub IsLocal : Changes → Type 0
IsLocal (Writes ws) = ⊥
IsLocal (Security s) = ⊥
IsLocal (Local id document) = ⊤

-- the changes may be made in this database
abbrev pub MayBeMade : Changes → Database → Type 0
MayBeMade (Writes ws) db = AreAcceptable db (writings_in db (additions ws.items))
MayBeMade (Security s) db = ⊤
MayBeMade (Local id document) db = IsLocalDocument id document

-- the change is this local document, which a write of the id came to
abbrev pub IsLocalOf : List ℕ → Result LocalDocument WriteFault → Changes → Type 0
IsLocalOf id outcome (Writes ws) = ⊥
IsLocalOf id outcome (Security s) = ⊥
IsLocalOf id outcome (Local written document) = (written ≡ id) × (outcome ≡ Ok document)

-- there is no room for them in this database, which has this name, by the writes that there is no room for: a security object or a
-- local document takes none
abbrev pub LacksRoomFor : (List ℕ → List DocumentWrite → Type 0) → List ℕ → Changes → Database → Type 0
LacksRoomFor lacks name (Writes ws) db = lacks name (writings_in db (additions ws.items))
LacksRoomFor lacks name (Security s) db = ⊥
LacksRoomFor lacks name (Local id document) db = ⊥

-- the plan makes of this database what becomes of these documents, and tells it of each
pub record Plans (db : Database) (documents : List Value) (os : List DocumentOutcome) (planned : Planned) : Type 0 where
  pub writes : planned_writes db planned.changes ≡ writes_in os
  pub changes : database_after planned.changes db ≡ with_all db (writes_in os)
  pub may : MayBeMade planned.changes db
  pub results : map told_of planned.results.items ≡ all_told documents os

-- a value is a security object or a bad one
abbrev pub security_outcome : Value → Result Value WriteFault
security_outcome value = if is_security value then Ok value else Err BadDocument
