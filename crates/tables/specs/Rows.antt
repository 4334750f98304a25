-- What the rows of the tables say: the databases that they hold, as a function of all rows; a row that is laid out otherwise says something, whatever it is.
-- The contents are those of `store`; that a known revision is a row is this server's own layout.
use Rattle.std.specs.Prelude.{ℕ, ◌-◌, ℤ, pos, ◌+ℤ◌, ◌++◌, fold, Bool, true, false, ◌&&◌, nat_lt, bytes_eq, if◌then◌else◌, List, [], ◌∷◌, map, filter, Option, Some, None, Result, Ok, Err}
use Rattle.std.specs.declared.cmp.Ordering.{Ordering}
use Rattle.std.specs.Ordering.{eq_by_cmp, int_eq, nat_cmp}
use Rattle.std.specs.Cmp.Lexicographic.{slice_cmp}
use Rattle.std.specs.FinMap.{from_entries}
use Rattle.std.specs.List.{list_any}
use Rattle.couch_json.specs.Canonical.{canonical}
use Rattle.couch_json.specs.Reading.{reading}
use Rattle.couch_json.specs.Value as json
use Rattle.couch_json.specs.declared.fault.JsonFault.{JsonFault}
use Rattle.tree.specs.History.{HistoryContent, entry_of_row}
use Rattle.tree.specs.Revision.{Revision, revision_cmp}
use Rattle.tree.specs.declared.entry.Entry.{Entry}
use Rattle.tree.specs.declared.entry.Held.{Held}
use Rattle.store.specs.Contents.{Contents}
use Rattle.store.specs.Database.{Database, Document, TextMap}
use Rattle.store.specs.declared.local_document.LocalDocument.{LocalDocument}
use Rattle.sqlite_value.specs.declared.value.Value.{Value}
use Rattle.sqlite_value.specs.declared.value.Value.TheVariants.{Null, Int, Text, Blob}
use Rattle.sqlite_value.specs.Order.{Row, column, bytes}
use Rattle.sqlite_trees.specs.Tree.{Trees, rowid}
use Rattle.tables.specs.Schema.{dbs_tree, docs_tree, revs_tree, locals_tree}

-- ---- cells

-- the number of a cell; 0 of any other
abbrev pub whole_in_cell : Value → ℤ
whole_in_cell (Int n) = n
whole_in_cell v = pos 0

-- the number of a cell that is not negative; 0 of any other
abbrev pub count_in_cell : Value → ℕ
count_in_cell (Int (pos n)) = n
count_in_cell v = 0

-- a cell has a number above 0
abbrev pub is_set : Value → Bool
is_set v = nat_lt 0 (count_in_cell v)

-- the value that was read, or null
abbrev pub read_or_null : Result json.Value JsonFault → json.Value
read_or_null (Ok v) = v
read_or_null (Err fault) = json.null

-- the value that a text in the cell spells
abbrev pub json_in_cell : Value → json.Value
json_in_cell v = read_or_null (reading (bytes v))

-- 1 for true, and 0 for false
abbrev pub flag : Bool → Value
flag b = Int (if b then pos 1 else pos 0)

-- a number as a cell
abbrev pub count_cell : ℕ → Value
count_cell n = Int (pos n)

-- the canonical text of a value as a cell
abbrev pub text_cell : json.Value → Value
text_cell v = Text (canonical v)

-- ---- what the rows of each table are

-- the number by which a table's rows are told apart
abbrev pub number_of : Row → ℤ
number_of r = whole_in_cell (rowid r)

-- one above the last number, and 1 in an empty table
abbrev pub next_number : List Row → ℤ
next_number rows = fold (λ _ r. number_of r +ℤ pos 1) (pos 1) rows

-- the rows, with these cells behind them under the next number
abbrev pub with_cells : List Row → Row → List Row
with_cells rows cells = rows ++ (Int (next_number rows) ∷ cells) ∷ []

-- the row has this number
abbrev pub has_number : ℤ → Row → Bool
has_number n r = int_eq (number_of r) n

-- the database that a row of a document, a revision or a local document belongs to, and the id
abbrev pub db_of : Row → ℤ
db_of r = whole_in_cell (column r 1)

-- the id of the document of a row
abbrev pub id_of : Row → List ℕ
id_of r = bytes (column r 2)

-- the row is one of this database
abbrev pub is_row_of_database : ℤ → Row → Bool
is_row_of_database db r = int_eq (db_of r) db

-- the row is one of this document
abbrev pub is_row_of_document : ℤ → List ℕ → Row → Bool
is_row_of_document db id r = is_row_of_database db r && bytes_eq (id_of r) id

-- databases: the number stands in the place of the rowid
abbrev pub database_cells : List ℕ → List ℕ → ℤ → Row
database_cells name security sequence = Null ∷ Blob name ∷ Text security ∷ Int sequence ∷ []

-- the row of a database: its number, its name, its security object, its sequence
abbrev pub database_row : ℤ → List ℕ → List ℕ → ℤ → Row
database_row num name security sequence = Int num ∷ database_cells name security sequence

-- the name of the row of a database
abbrev pub name_of : Row → List ℕ
name_of r = bytes (column r 2)

abbrev pub is_named : List ℕ → Row → Bool
is_named name r = bytes_eq (name_of r) name

-- what a query shows of such a row: the number, the text of the security object and the sequence
abbrev pub shown_database : Row → Row
shown_database r = rowid r ∷ column r 3 ∷ column r 4 ∷ []

abbrev pub security_text : Row → List ℕ
security_text r = bytes (column r 3)

-- the security object of the row of a database
abbrev pub security_of : Row → json.Value
security_of r = json_in_cell (column r 3)

-- the sequence of the row of a database
abbrev pub sequence_of_database : Row → ℕ
sequence_of_database r = count_in_cell (column r 4)

-- the row of a database with another security object, or another sequence
abbrev pub row_with_security : List ℕ → Row → Row
row_with_security text r = database_row (number_of r) (name_of r) text (pos (sequence_of_database r))

abbrev pub row_at_sequence : ℤ → Row → Row
row_at_sequence sequence r = database_row (number_of r) (name_of r) (security_text r) sequence

-- the rows, where the database of this number has another
abbrev pub rows_with_security : ℤ → List ℕ → List Row → List Row
rows_with_security n text rows = map (λ r. if has_number n r then row_with_security text r else r) rows

abbrev pub rows_at_sequence : ℤ → ℤ → List Row → List Row
rows_at_sequence n sequence rows = map (λ r. if has_number n r then row_at_sequence sequence r else r) rows

-- databases go by the bytes of their names
abbrev pub by_name : Row → Row → Ordering
by_name a b = slice_cmp nat_cmp (name_of a) (name_of b)

-- what the list of names shows
abbrev pub shown_name : Row → Row
shown_name r = column r 2 ∷ []

-- documents: the winner is a text
abbrev pub document_cells : ℤ → List ℕ → ℤ → List ℕ → Bool → Row
document_cells db id sequence winner deleted = Int db ∷ Blob id ∷ Int sequence ∷ Text winner ∷ flag deleted ∷ []

-- the row of a document: its number, that of its database, its id, its sequence, its winner, and whether that is deleted
abbrev pub document_row : ℤ → ℤ → List ℕ → ℤ → List ℕ → Bool → Row
document_row number db id sequence winner deleted = Int number ∷ document_cells db id sequence winner deleted

-- the row of a document at another sequence, with another winner and mark
abbrev pub row_with_winner : ℤ → List ℕ → Bool → Row → Row
row_with_winner sequence winner deleted r = document_row (number_of r) (db_of r) (id_of r) sequence winner deleted

-- the rows, where the document of this id has another
abbrev pub rows_with_winner : ℤ → List ℕ → ℤ → List ℕ → Bool → List Row → List Row
rows_with_winner db id sequence winner deleted rows = map (λ r. if is_row_of_document db id r then row_with_winner sequence winner deleted r else r) rows

-- the rows with that of this document: in the place of the one of its id, and behind all others where there is none
abbrev pub rows_with_document : ℤ → List ℕ → ℤ → List ℕ → Bool → List Row → List Row
rows_with_document db id sequence winner deleted rows =
    if list_any (is_row_of_document db id) rows then rows_with_winner db id sequence winner deleted rows else with_cells rows (document_cells db id sequence winner deleted)

-- what a query shows of such a row: the sequence, the winner and whether it is deleted
abbrev pub shown_document : Row → Row
shown_document r = column r 3 ∷ column r 4 ∷ column r 5 ∷ []

-- the sequence of the row of a document
abbrev pub sequence_of_row : Row → ℕ
sequence_of_row r = count_in_cell (column r 3)

-- documents go by the bytes of their ids, or by their sequences
abbrev pub by_id : Row → Row → Ordering
by_id a b = slice_cmp nat_cmp (id_of a) (id_of b)

abbrev pub by_sequence : Row → Row → Ordering
by_sequence a b = nat_cmp (sequence_of_row a) (sequence_of_row b)

-- what a list of documents shows: the id too
abbrev pub listed_document : Row → Row
listed_document r = column r 2 ∷ column r 3 ∷ column r 4 ∷ column r 5 ∷ []

-- the winner of the row of a document, as text
abbrev pub winner_text : Row → List ℕ
winner_text r = bytes (column r 4)

-- the winner of the row of a document is deleted
abbrev pub is_gone_row : Row → Bool
is_gone_row r = is_set (column r 5)

-- revisions: of the parent there is the hash, since its number is one less
abbrev pub parent_cell : Option Revision → Value
parent_cell None = Null
parent_cell (Some p) = Text p.hash

-- the text of the body that is held, or null
abbrev pub body_cell : Option Held → Value
body_cell None = Null
body_cell (Some held) = text_cell held.body

-- a body is held
abbrev pub is_held : Option Held → Bool
is_held None = false
is_held (Some held) = true

-- what is held is deleted
abbrev pub is_held_deleted : Option Held → Bool
is_held_deleted None = false
is_held_deleted (Some held) = held.deleted

-- what a query shows of such a row: all but the database and the id
abbrev pub shown_revision : Row → Row
shown_revision r = column r 3 ∷ column r 4 ∷ column r 5 ∷ column r 6 ∷ column r 7 ∷ column r 8 ∷ []

-- the cells as they are handed in: the parent's hash, and the body's text, where they are there
abbrev pub given_cells : ℤ → List ℕ → ℕ → List ℕ → Value → Bool → Bool → Value → Row
given_cells db id n hash parent held deleted body =
    Int db ∷ Blob id ∷ count_cell n ∷ Text hash ∷ parent ∷ flag held ∷ flag deleted ∷ body ∷ []

-- its cells behind the number
abbrev pub revision_cells : ℤ → List ℕ → Revision → Entry → Row
revision_cells db id r e =
    given_cells db id r.number r.hash (parent_cell e.parent) (is_held e.held) (is_held_deleted e.held) (body_cell e.held)

-- the row of a revision: its number, that of its database, its document, the revision, its parent, and what is held
abbrev pub revision_row : ℤ → ℤ → List ℕ → Revision → Entry → Row
revision_row number db id r e = Int number ∷ revision_cells db id r e

-- the revision of a row
abbrev pub revision_of_row : Row → Revision
revision_of_row r = record { number = count_in_cell (column r 3); hash = bytes (column r 4) }

-- the parent by its hash, one number below
abbrev pub parent_in : ℕ → Value → Option Revision
parent_in n (Text hash) = Some (record { number = n - 1; hash = hash })
parent_in n v = None

-- what is held of the revision of a row, and whether it is deleted
abbrev pub held_in : Row → Option (Bool × json.Value)
held_in r = if is_set (column r 6) then Some (is_set (column r 7), json_in_cell (column r 8)) else None

-- the parent of the revision of a row, and what is held of it
abbrev pub entry_of : Row → Entry
entry_of r = entry_of_row (parent_in (count_in_cell (column r 3)) (column r 5)) (held_in r)

-- the same without the body
abbrev pub shown_outline : Row → Row
shown_outline r = column r 3 ∷ column r 4 ∷ column r 5 ∷ column r 6 ∷ column r 7 ∷ []

-- the number and the hash alone
abbrev pub shown_hash : Row → Row
shown_hash r = column r 3 ∷ column r 4 ∷ []

-- the row is that of this revision of the document
abbrev pub is_revision_of : ℤ → List ℕ → Revision → Row → Bool
is_revision_of db id rev r = is_row_of_document db id r && eq_by_cmp revision_cmp rev (revision_of_row r)

-- local documents
abbrev pub local_cells : ℤ → List ℕ → ℕ → List ℕ → Row
local_cells db id n body = Int db ∷ Blob id ∷ count_cell n ∷ Text body ∷ []

-- the row of a local document: its number, that of its database, its id, its own number, its body
abbrev pub local_row : ℤ → ℤ → List ℕ → ℕ → List ℕ → Row
local_row number db id n body = Int number ∷ local_cells db id n body

-- what a query shows of such a row: the number of the revision, and the text of the body
abbrev pub shown_local : Row → Row
shown_local r = column r 3 ∷ column r 4 ∷ []

-- the local document of a row
abbrev pub local_of : Row → LocalDocument
local_of r = record { number = count_in_cell (column r 3); body = json_in_cell (column r 4) }

-- ---- the databases that they hold

-- the local documents of a database
abbrev pub locals_in : List Row → ℤ → TextMap LocalDocument
locals_in rows db = from_entries (map (λ r. (id_of r, local_of r)) (filter (is_row_of_database db) rows))

-- the history of a document: each of its rows is a known revision
abbrev pub history_in_rows : List Row → ℤ → List ℕ → HistoryContent
history_in_rows rows db id = from_entries (map (λ r. (revision_of_row r, entry_of r)) (filter (is_row_of_document db id) rows))

-- the document of a row, whose revisions are among these rows
abbrev pub document_of_row : List Row → Row → Document
document_of_row revs r = record { sequence = sequence_of_row r; history = history_in_rows revs (db_of r) (id_of r) }

-- the documents of a database
abbrev pub documents_in_rows : List Row → List Row → ℤ → TextMap Document
documents_in_rows docs revs db = from_entries (map (λ r. (id_of r, document_of_row revs r)) (filter (is_row_of_database db) docs))

-- the database of a row
abbrev pub database_of_row : Trees → Row → Database
database_of_row trees r =
    record {
      length = sequence_of_database r;
      security = security_of r;
      locals = locals_in (trees locals_tree) (number_of r);
      documents = documents_in_rows (trees docs_tree) (trees revs_tree) (number_of r);
    }

-- all databases, by name
abbrev pub contents_in : Trees → Contents
contents_in trees = from_entries (map (λ r. (name_of r, database_of_row trees r)) (trees dbs_tree))
