-- What queries see of a document, as the rows of the document say it.
-- This server's own: what a query shows of a row is said by `tables`.
use Rattle.std.specs.Prelude.{◌≡◌, ◌&&◌, ◌⊎◌, ◌∷◌, [], ℕ, ℤ, Bool, false, true, filter, map, IsTrue, List, Option, Some, option_map, option_and_then, slice_get}
use Rattle.couch_json.specs.Value.{Value}
use Rattle.sqlite.specs.Held.{Held, state}
use Rattle.sqlite.specs.State.{HasCleanDisk}
use Rattle.sqlite_trees.specs.declared.store.Store.{Ghosts}
use Rattle.sqlite_value.specs.Order.{Row, column}
use Rattle.tables.specs.Layout.{IsDocumentRow, IsStore}
use Rattle.sqlite_keyed.specs.Lists.{sort_by}
use Rattle.tables.specs.Listings.{first_rows, has_id_between, is_between, rows_behind}
use Rattle.tables.specs.Rows.{by_id, db_of, id_of, is_gone_row, is_row_of_database, listed_document, winner_text}
use Rattle.tables.specs.Shown.{held_shown}
use Rattle.tables.specs.declared.decode.ListedDocument.{ListedDocument}
use Rattle.tree.specs.Revision.{Revision, revision_read}
use Rattle.tree.specs.ShownDocument.{document_at_revision}

-- the revision of a row as its document, where something is held of it
abbrev pub shown_by_row : List ℕ → Revision → Row → Option Value
shown_by_row id r s = option_map (λ h. document_at_revision id r (record { deleted = h.0; body = h.1 })) (held_shown s)

-- that of the first row
abbrev pub shown_by_rows : List ℕ → Revision → List Row → Option Value
shown_by_rows id r rows = option_and_then (shown_by_row id r) (slice_get rows 0)

-- what is read of a document's row in a list
pub record IsListedAs (r : Row) (d : ListedDocument) : Type 0 where
  pub id : d.id ≡ id_of r
  pub winner : revision_read (winner_text r) ≡ Some d.winner
  pub deleted : d.deleted ≡ is_gone_row r

-- the same of the row as a query shows it
abbrev pub IsListedFrom : Row → ListedDocument → Type 0
IsListedFrom s d = (r : Row) → s ≡ listed_document r → IsListedAs r d

-- the first of the rows is there, and this body is held of it under no mark of deletion
pub record HasLive (rows : List Row) : Type 0 where
  pub row : Row
  pub first : slice_get rows 0 ≡ Some row
  pub body : Value
  pub held : held_shown row ≡ Some (false, body)

-- and this is the document that it shows
pub record ShowsLive (id : List ℕ) (r : Revision) (rows : List Row) (document : Value) : Type 0 where
  pub live : HasLive rows
  pub shown : document ≡ document_at_revision id r (record { deleted = false; body = live.body })

-- the row is that of a document of the database whose id lies between the bounds
abbrev pub is_in_range : ℤ → List ℕ → List ℕ → Row → Bool
is_in_range db low high r = is_row_of_database db r && has_id_between low high r

-- the rows of these documents, by the bytes of their ids
abbrev pub documents_between : ℤ → List ℕ → List ℕ → List Row → List Row
documents_between db low high rows = sort_by by_id (filter (is_in_range db low high) rows)

-- their ids, as a query shows them: behind so many, up to so many or all
abbrev pub ids_between : ℤ → List ℕ → List ℕ → ℤ → ℤ → List Row → List Row
ids_between db low high most skip rows = first_rows most (rows_behind skip (map (λ r. column r 2 ∷ []) (documents_between db low high rows)))

-- what lies between the bounds may be cut there: the bytes lie between them, or are the high one
abbrev pub IsCut : List ℕ → List ℕ → List ℕ → Type 0
IsCut low high bytes = (is_between low high bytes ≡ true) ⊎ (bytes ≡ high)

-- The disk returned what was written, and the tables of an open connection were laid out: with this row of a document of the database, of
-- which that is read, and whose winner is not deleted.
abbrev pub IsSoundLive : {S : Type 0} → Ghosts S → ℤ → ListedDocument → Row → Held S → Held S → Type 0
IsSoundLive g db listed d old new =
    HasCleanDisk (state g new) × (IsTrue (state g old).is_open → IsStore (state g old).now × IsDocumentRow (state g old).now.trees d × (db_of d ≡ db) × IsListedAs d listed × (is_gone_row d ≡ false))
