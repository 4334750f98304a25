-- One write of a document, done as statements: its new revisions are put in one after another, and then the document's row is put in or changed, and its database's is changed.
-- This server's own layout; when a write may be done, and what it makes of the database, is said by `store`.
use Rattle.std.specs.Prelude.{◌≡◌, ◌+◌, ◌<◌, ◌^◌, ℕ, ℤ, pos, not, IsTrue, IsUtf8, List, [], ◌∷◌, filter, slice_get, length, Some}
use Rattle.std.specs.FinMap.{insert}
use Rattle.std.specs.List.{AllByRecursion}
use Rattle.couch_json.specs.Lawful as json
use Rattle.tree.specs.DocumentId.{is_document_id}
use Rattle.tree.specs.History.{HistoryContent, is_known, is_deleted, held_of, winner, with_write, write_entries}
use Rattle.tree.specs.Revision.{Revision, is_revision, text_of}
use Rattle.tree.specs.Write.{Write}
use Rattle.tree.specs.declared.entry.Entry.{Entry}
use Rattle.store.specs.Contents.{IsAcceptable}
use Rattle.store.specs.Database.{DocumentWrite, with_all}
use Rattle.sqlite_value.specs.Order.{Row}
use Rattle.sqlite_trees.specs.Tree.{Trees}
use Rattle.sqlite.specs.Effect as sqlite
use Rattle.tables.specs.Layout.{IsStore}
use Rattle.tables.specs.Rows.{number_of, sequence_of_database, is_named, with_cells, revision_cells, rows_with_document, row_at_sequence, rows_at_sequence, history_in_rows, database_of_row, contents_in}
use Rattle.tables.specs.Schema.{dbs_tree, docs_tree, revs_tree}
use Rattle.tables.specs.Steps.{Changes}

-- what the path says of the revisions that the history doesn't know yet
abbrev pub new_entries : HistoryContent → Write → List (Revision × Entry)
new_entries h w = filter (λ e. not (is_known h e.0)) (write_entries w)

-- the rows, with one for each entry behind them
abbrev pub with_revisions : List Row → ℤ → List ℕ → List (Revision × Entry) → List Row
with_revisions rows db id [] = rows
with_revisions rows db id (e ∷ es) = with_revisions (with_cells rows (revision_cells db id e.0 e.1)) db id es

-- the statements that put these rows in, one after another
abbrev pub AreInserted : List (Revision × Entry) → ℤ → List ℕ → sqlite.Database → sqlite.Database → Type 0
AreInserted [] db id a b = a ≡ b
AreInserted (e ∷ es) db id a c = (b : sqlite.Database) × Changes revs_tree (with_cells (a.trees revs_tree) (revision_cells db id e.0 e.1)) a b × AreInserted es db id b c

-- the document's history before the write, and after it
abbrev pub history_before : Trees → Row → DocumentWrite → HistoryContent
history_before trees r w = history_in_rows (trees revs_tree) (number_of r) w.id

abbrev pub history_after : Trees → Row → DocumentWrite → HistoryContent
history_after trees r w = with_write (history_before trees r w) w.write

-- rows can say what the write says
pub record IsStorable (w : DocumentWrite) : Type 0 where
  pub named : IsTrue (is_document_id w.id)
  pub text : IsUtf8 w.id
  pub revisions : AllByRecursion (λ v. IsTrue (is_revision v)) w.write.path
  pub body : json.IsLawful w.write.body

-- the write may be done in the database of this name, which has this row
pub record IsWritable (trees : Trees) (name : List ℕ) (r : Row) (w : DocumentWrite) : Type 0 where
  pub found : slice_get (filter (is_named name) (trees dbs_tree)) 0 ≡ Some r
  pub acceptable : IsAcceptable (database_of_row trees r) w
  pub storable : IsStorable w
  pub room : sequence_of_database r + 1 < 2 ^ 63

-- the statements of the write, in the database that has this row
pub record IsWrite (r : Row) (w : DocumentWrite) (old new : sqlite.Database) : Type 0 where
  pub inserted : sqlite.Database
  pub placed : sqlite.Database
  pub best : Revision
  pub revisions : AreInserted (new_entries (history_before old.trees r w) w.write) (number_of r) w.id old inserted
  pub best_is : winner (history_after old.trees r w) ≡ Some best
  pub places : Changes docs_tree (rows_with_document (number_of r) w.id (pos (sequence_of_database r + 1)) (text_of best) (is_deleted (held_of (history_after old.trees r w) best)) (inserted.trees docs_tree)) inserted placed
  pub advances : Changes dbs_tree (rows_at_sequence (number_of r) (pos (sequence_of_database r + 1)) (placed.trees dbs_tree)) placed new

-- the database's row after so many writes
abbrev pub row_after : Row → ℕ → Row
row_after r count = row_at_sequence (pos (sequence_of_database r + count)) r

-- these writes were done, one after another, in the database of this name, which had this row
pub record HasWritten (ws : List DocumentWrite) (name : List ℕ) (r : Row) (old new : sqlite.Database) : Type 0 where
  pub store : IsStore new
  pub row : slice_get (filter (is_named name) (new.trees dbs_tree)) 0 ≡ Some (row_after r (length ws))
  pub database : database_of_row new.trees (row_after r (length ws)) ≡ with_all (database_of_row old.trees r) ws
  pub contents : contents_in new.trees ≡ insert (contents_in old.trees) name (with_all (database_of_row old.trees r) ws)
