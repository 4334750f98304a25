-- What the rows of databases and names say, and when they are intact.
-- This server's own: rows are read by the words of `tables`.
use Rattle.std.specs.Prelude.{◌≡◌, ℕ, ◌-◌, ℤ, Bool, if◌then◌else◌, IsTrue, List, length, filter, slice_get, Option, None, Some, Vec}
use Rattle.std.specs.declared.alloc.Global.{Global}
use Rattle.couch_json.specs.Value as json
use Rattle.couch_json.specs.View.{view}
use Rattle.store.specs.DatabaseName.{is_database_name}
use Rattle.sqlite_value.specs.declared.value.Value.TheVariants.{Blob}
use Rattle.sqlite_value.specs.Order.{Row, bytes, column}
use Rattle.tables.specs.Rows.{count_in_cell, is_named, json_in_cell, sequence_of_database, number_of, security_of, whole_in_cell}
use Rattle.sqlite_trees.specs.Tree.{Trees}
use Rattle.tables.specs.Schema.{dbs_tree}
use Rattle.tables.specs.Shown.{revision_shown}
use Rattle.tree.specs.Revision.{Revision}
use Rattle.index.specs.declared.declaration.Declaration.{Declaration}
use Rattle.sqlstore.specs.declared.document_count.DocumentCount.{DocumentCount}
use Rattle.sqlstore.specs.declared.known_counts.KnownCounts.{KnownCounts}
use Rattle.sqlstore.specs.declared.known_database.KnownDatabase.{KnownDatabase}

-- the number, the security object and the sequence of a database
abbrev pub FoundValues : Type 0
FoundValues = ℤ × json.Value × ℕ

-- of its row
abbrev pub found_in : Row → FoundValues
found_in r = (number_of r, security_of r, sequence_of_database r)

-- its number and its sequence alone
abbrev pub NumberValues : Type 0
NumberValues = ℤ × ℕ

abbrev pub numbers_in : Row → NumberValues
numbers_in r = (number_of r, sequence_of_database r)

-- what is known of a database
abbrev pub known_values : KnownDatabase → FoundValues
known_values k = (k.found.number, view k.found.security, k.found.sequence)

-- what is known after documents were written: the same, with this sequence and these indexes, and neither counts, nor ranks, of ids or of keys, nor design documents
abbrev pub at_sequence : ℕ → Vec Declaration Global → KnownDatabase → KnownDatabase
at_sequence sequence indexes k = record k { found = record k.found { sequence = sequence }; live = None; deleted = None; ranks = None; indexes = Some indexes; index_ranks = None; designs = None }

-- the same, but that neither an index is known, nor the ranks of the keys of one, nor design documents
abbrev pub without_indexes : KnownDatabase → KnownDatabase
without_indexes k = record k { indexes = None; index_ranks = None; designs = None }

-- the count of the documents whose winner is marked so
abbrev pub count_kept : Bool → KnownDatabase → Option DocumentCount
count_kept deleted k = if deleted then k.deleted else k.live

-- the same database, with this count
abbrev pub with_count : Bool → DocumentCount → KnownDatabase → KnownDatabase
with_count deleted count k = if deleted then record k { deleted = Some count } else record k { live = Some count }

-- both counts, each where it was counted
abbrev pub counts_of : KnownDatabase → KnownCounts
counts_of k = record { live = k.live; deleted = k.deleted }

-- of what a query shows of its row
abbrev pub found_shown : Row → FoundValues
found_shown s = (whole_in_cell (column s 0), json_in_cell (column s 1), count_in_cell (column s 2))

-- the name of a database
abbrev pub name_shown : Row → List ℕ
name_shown s = bytes (column s 0)

pub record IsShownName (s : Row) : Type 0 where
  pub width : length s ≡ 1
  pub name : column s 0 ≡ Blob (name_shown s)
  pub lawful : IsTrue (is_database_name (name_shown s))

-- the database of this name has this number
pub record HasNumber (trees : Trees) (name : List ℕ) (number : ℤ) : Type 0 where
  pub row : Row
  pub first : slice_get (filter (is_named name) (trees dbs_tree)) 0 ≡ Some row
  pub numbered : number_of row ≡ number

-- the revision of the last row, and its number is the number of the rows
pub record EndsPath (rev : Revision) (rows : List Row) : Type 0 where
  pub row : Row
  pub last : slice_get rows (length rows - 1) ≡ Some row
  pub named : revision_shown row ≡ rev
  pub counted : rev.number ≡ length rows
