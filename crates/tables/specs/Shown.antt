-- What the rows that a query shows say, and when they are such rows.
-- This server's own layout.
use Rattle.std.specs.Prelude.{◌≡◌, ◌⊎◌, ◌<◌, ◌^◌, ◌-◌, ℕ, ℤ, pos, Bool, if◌then◌else◌, IsTrue, List, length, Option, Some, None, Ok}
use Rattle.couch_json.specs.Reading.{reading}
use Rattle.couch_json.specs.Value as json
use Rattle.tree.specs.Revision.{Revision, is_hash, is_revision, text_of}
use Rattle.store.specs.declared.local_document.LocalDocument.{LocalDocument}
use Rattle.sqlite_value.specs.declared.value.Value.{Value}
use Rattle.sqlite_value.specs.declared.value.Value.TheVariants.{Null, Int, Text}
use Rattle.sqlite_value.specs.Order.{Row, bytes, column}
use Rattle.tables.specs.Rows.{count_in_cell, is_set, json_in_cell, parent_in}

-- a number of 32 bits
abbrev pub IsSmall : Value → Type 0
IsSmall v = (n : ℕ) × (v ≡ Int (pos n)) × (n < 2 ^ 32)

-- a number that is not negative
abbrev pub IsCount : Value → Type 0
IsCount v = (n : ℕ) × (v ≡ Int (pos n))

abbrev pub IsWhole : Value → Type 0
IsWhole v = (n : ℤ) × (v ≡ Int n)

-- the text of a revision
abbrev pub SpellsRevision : Value → Type 0
SpellsRevision v = (r : Revision) × IsTrue (is_revision r) × (v ≡ Text (text_of r))

-- the text of a JSON value
abbrev pub SpellsJson : Value → Type 0
SpellsJson v = (text : List ℕ) × (value : json.Value) × (v ≡ Text text) × (reading text ≡ Ok value)

-- the local document of such a row
abbrev pub local_shown : Row → LocalDocument
local_shown s = record { number = count_in_cell (column s 0); body = json_in_cell (column s 1) }

pub record IsShownLocal (s : Row) : Type 0 where
  pub width : length s ≡ 2
  pub number : IsSmall (column s 0)
  pub body : SpellsJson (column s 1)

pub record IsShownDocument (s : Row) : Type 0 where
  pub width : length s ≡ 3
  pub sequence : IsCount (column s 0)
  pub winner : SpellsRevision (column s 1)
  pub mark : IsCount (column s 2)

pub record IsShownDatabase (s : Row) : Type 0 where
  pub width : length s ≡ 3
  pub number : IsWhole (column s 0)
  pub security : SpellsJson (column s 1)
  pub sequence : IsCount (column s 2)

-- ---- the row of a revision: number, hash, parent, whether it is held, whether it is deleted, and its body

-- the hash of a revision
abbrev pub SpellsHash : Value → Type 0
SpellsHash v = (hash : List ℕ) × IsTrue (is_hash hash) × (v ≡ Text hash)

-- the hash of a revision of this number
abbrev pub SpellsHashOf : ℕ → Value → Type 0
SpellsHashOf number v = (r : Revision) × IsTrue (is_revision r) × (r.number ≡ number) × (v ≡ Text r.hash)

-- the hash of a revision of the number before, or nothing
abbrev pub SpellsParentOf : ℕ → Value → Type 0
SpellsParentOf number v = (v ≡ Null) ⊎ SpellsHashOf (number - 1) v

abbrev pub revision_shown : Row → Revision
revision_shown s = record { number = count_in_cell (column s 0); hash = bytes (column s 1) }

abbrev pub parent_shown : Row → Option Revision
parent_shown s = parent_in (count_in_cell (column s 0)) (column s 2)

abbrev pub held_shown : Row → Option (Bool × json.Value)
held_shown s = if is_set (column s 3) then Some (is_set (column s 4), json_in_cell (column s 5)) else None

-- nothing is held, or a mark and a body are
pub record ShowsHeld (s : Row) : Type 0 where
  pub held : IsCount (column s 3)
  pub mark : IsTrue (is_set (column s 3)) → IsCount (column s 4)
  pub body : IsTrue (is_set (column s 3)) → SpellsJson (column s 5)

pub record IsShownRevision (s : Row) : Type 0 where
  pub width : length s ≡ 6
  pub number : IsSmall (column s 0)
  pub hash : SpellsHashOf (count_in_cell (column s 0)) (column s 1)
  pub parent : SpellsParentOf (count_in_cell (column s 0)) (column s 2)
  pub held : ShowsHeld s

-- ---- the same without the body

abbrev pub mark_shown : Row → Option Bool
mark_shown s = if is_set (column s 3) then Some (is_set (column s 4)) else None

-- nothing is held, or a mark is
pub record ShowsMark (s : Row) : Type 0 where
  pub held : IsCount (column s 3)
  pub mark : IsTrue (is_set (column s 3)) → IsCount (column s 4)

pub record IsShownOutline (s : Row) : Type 0 where
  pub width : length s ≡ 5
  pub number : IsSmall (column s 0)
  pub hash : SpellsHashOf (count_in_cell (column s 0)) (column s 1)
  pub parent : SpellsParentOf (count_in_cell (column s 0)) (column s 2)
  pub held : ShowsMark s

-- ---- the number and the hash alone

pub record IsShownHash (s : Row) : Type 0 where
  pub width : length s ≡ 2
  pub number : IsSmall (column s 0)
  pub hash : SpellsHashOf (count_in_cell (column s 0)) (column s 1)
