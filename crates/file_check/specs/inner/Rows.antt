-- What of a row is told by the row alone.
-- This server's own, over `Layout` of `tables`.
use Rattle.std.specs.Prelude.{◌≡◌, ◌≢◌, ◌↔◌, ◌⊎◌, ◌≤◌, ◌||◌, ℕ, Bool, IsTrue, IsUtf8, List, option_map, int_le, Option, pos, Some, None, true, false, ℤ}
use Rattle.std.specs.Ordering.{int_eq}
use Rattle.couch_json.specs.Canonical.{canonical}
use Rattle.couch_json.specs.Lawful as json
use Rattle.store.specs.Lawful.{IsBody, IsLocalDocument}
use Rattle.tree.specs.DocumentId.{is_document_id, is_local_id}
use Rattle.tree.specs.History.{HistoryContent, held_of, is_deleted, winner}
use Rattle.tree.specs.Revision.{Revision, is_revision, text_of}
use Rattle.tree.specs.declared.entry.Held.{Held}
use Rattle.sqlite_value.specs.declared.value.Value.TheVariants.{Int, Null, Text}
use Rattle.sqlite_value.specs.Order.{Row, bytes, column}
use Rattle.tables.specs.Layout.{IsDatabaseRow}
use Rattle.tables.specs.Rows.{body_cell, db_of, document_row, flag, is_held, is_held_deleted, entry_of, id_of, is_gone_row, local_of, local_row, number_of, revision_of_row, revision_row, sequence_of_row, whole_in_cell, winner_text}
use Rattle.file_check.specs.Tables.{HasHeldLeaves}

-- the text may be the id of a document, and is none of a local one
pub record IsIdOfDocument (id : List ℕ) : Type 0 where
  pub named : IsTrue (is_document_id id)
  pub apart : is_local_id id ≡ false
  pub text : IsUtf8 id

-- the bytes may be the id of a local document
pub record IsIdOfLocal (id : List ℕ) : Type 0 where
  pub named : IsTrue (is_document_id id)
  pub local : IsTrue (is_local_id id)

-- the row of a local document, whatever its database is
pub record IsLawfulLocal (r : Row) : Type 0 where
  pub is : r ≡ local_row (number_of r) (db_of r) (id_of r) (local_of r).number (canonical (local_of r).body)
  pub named : IsTrue (is_document_id (id_of r))
  pub local : IsLocalDocument (id_of r) (local_of r)

-- the row of a database, at 0 or where a document is at its sequence
pub record IsEndedDatabase (r : Row) (there : Bool) : Type 0 where
  pub row : IsDatabaseRow r
  pub ends : (int_eq (whole_in_cell (column r 4)) (pos 0) || there) ≡ true

-- the row of a document, whatever its database and its history are
pub record IsLawfulDocument (r : Row) : Type 0 where
  pub is : r ≡ document_row (number_of r) (db_of r) (id_of r) (pos (sequence_of_row r)) (winner_text r) (is_gone_row r)
  pub named : IsTrue (is_document_id (id_of r))
  pub apart : is_local_id (id_of r) ≡ false
  pub text : IsUtf8 (id_of r)
  pub positive : 1 ≤ sequence_of_row r

-- the row of a revision, whatever its document is and whether its parent is known
pub record IsLawfulRevision (r : Row) : Type 0 where
  pub is : r ≡ revision_row (number_of r) (db_of r) (id_of r) (revision_of_row r) (entry_of r)
  pub lawful : IsTrue (is_revision (revision_of_row r))
  pub first : ((entry_of r).parent ≡ None) ↔ ((revision_of_row r).number ≡ 1)
  pub body : (held : Held) → (entry_of r).held ≡ Some held → IsBody held.body
  pub spelled : (held : Held) → (entry_of r).held ≡ Some held → json.IsLawful held.body

-- the text is that of the winner of a history, and this is its mark
pub record IsWinning (h : HistoryContent) (text : List ℕ) (deleted : Bool) : Type 0 where
  pub won : option_map text_of (winner h) ≡ Some text
  pub marked : (w : Revision) → winner h ≡ Some w → deleted ≡ is_deleted (held_of h w)

-- the last three cells of the row of a revision say that nothing is held of it
pub record ShowsNothing (r : Row) : Type 0 where
  pub held : column r 6 ≡ Int (pos 0)
  pub mark : column r 7 ≡ Int (pos 0)
  pub text : column r 8 ≡ Null

-- the last three cells of the row of a revision say what is held of it, in canonical text
pub record IsHeldSo (r : Row) : Type 0 where
  pub held : column r 6 ≡ flag (is_held (entry_of r).held)
  pub mark : column r 7 ≡ flag (is_held_deleted (entry_of r).held)
  pub text : column r 8 ≡ body_cell (entry_of r).held
  pub body : (held : Held) → (entry_of r).held ≡ Some held → IsBody held.body
  pub spelled : (held : Held) → (entry_of r).held ≡ Some held → json.IsLawful held.body

-- the row of a document is that of its database, which is at this sequence, and of its history
pub record IsOwnedDocument (r : Row) (length : Option ℤ) (h : HistoryContent) : Type 0 where
  pub within : (n : ℤ) × (length ≡ Some n) × (int_le (whole_in_cell (column r 3)) n ≡ true)
  pub winning : IsWinning h (winner_text r) (is_gone_row r)
  pub leaves : HasHeldLeaves h

-- the row of a revision of this number names none before it where it is the first, and else one that is known
abbrev pub IsFollowing : Row → ℕ → Bool → Type 0
IsFollowing r n known = ((column r 5 ≡ Null) × (n ≡ 1)) ⊎ ((column r 5 ≡ Text (bytes (column r 5))) × (n ≢ 1) × (known ≡ true))

-- The row of a revision, with all that is asked of it: whether its document is there, and whether the revision before it is known.
pub record IsWholeRevision (r : Row) (there known : Bool) : Type 0 where
  pub lawful : IsLawfulRevision r
  pub there_is : there ≡ true
  pub follows : (p : Revision) → (entry_of r).parent ≡ Some p → known ≡ true
