-- A write of a document that doesn't move the sequence of its database, and such writes in a database that stands at the last of their sequences already.
-- This server's own: what a write makes of the other tables is said by `tables`.
use Rattle.std.specs.Prelude.{◌≡◌, ◌+◌, ◌<◌, ℕ, ℤ, List, [], cond, eqb, false, length, pos, Some}
use Rattle.std.specs.List.{AllByRecursion}
use Rattle.sqlite.specs.Effect.{Database}
use Rattle.sqlite_value.specs.Order.{Row}
use Rattle.store.specs.Database.{DocumentWrite}
use Rattle.store.specs.Writing.{Addition, writings_in}
use Rattle.tables.specs.Edits.{AreInserted, HasWritten, new_entries}
use Rattle.tables.specs.Rows.{database_of_row, history_in_rows, sequence_of_database, number_of, rows_at_sequence, rows_with_document}
use Rattle.tables.specs.Schema.{dbs_tree, docs_tree, revs_tree}
use Rattle.tables.specs.Steps.{Changes}
use Rattle.tree.specs.DocumentId.{is_design_id}
use Rattle.tree.specs.History.{HistoryContent, held_of, is_deleted, winner, with_write}
use Rattle.tree.specs.Revision.{Revision, text_of}
use Rattle.index.specs.Indexed.{IsIndexed}
use Rattle.transactions.specs.Indexing.{AreAllIndexes}

-- the history of the write's document, with the write
abbrev pub history_after_write : Database → ℤ → DocumentWrite → HistoryContent
history_after_write old db w = with_write (history_in_rows (old.trees revs_tree) db w.id) w.write

-- the statements of the write in the database of this number, under this sequence, but for the one that moves the sequence of the database
pub record IsPlacedWrite (db sequence : ℤ) (w : DocumentWrite) (old new : Database) : Type 0 where
  pub inserted : Database
  pub best : Revision
  pub revisions : AreInserted (new_entries (history_in_rows (old.trees revs_tree) db w.id) w.write) db w.id old inserted
  pub best_is : winner (history_after_write old db w) ≡ Some best
  pub places : Changes docs_tree (rows_with_document db w.id sequence (text_of best) (is_deleted (held_of (history_after_write old db w) best)) (inserted.trees docs_tree)) inserted new

-- none is a write of a design document
abbrev pub ArePlain : List Addition → Type 0
ArePlain all = AllByRecursion (λ a. is_design_id a.id ≡ false) all

-- the same tables, but with these rows of databases
abbrev pub with_databases : List Row → Database → Database
with_databases rows d = record { schema = d.schema; trees = λ t. cond (eqb t dbs_tree) rows (d.trees t) }

-- The first of the writes were done, and the row of the database stands at the last sequence of all of them already: with the rows of
-- databases that it would have else, they are those that were done. The database has no index, and the rows of indexes are those of what is stored.
pub record IsAhead (all before : List Addition) (name : List ℕ) (r : Row) (old now : Database) : Type 0 where
  pub back : List Row
  pub written : HasWritten (writings_in (database_of_row old.trees r) before) name r old (with_databases back now)
  pub ahead : now.trees dbs_tree ≡ rows_at_sequence (number_of r) (pos (sequence_of_database r + length all)) back
  pub moved : 0 < length before → rows_at_sequence (number_of r) (pos (sequence_of_database r + length before)) back ≡ back
  pub indexed : IsIndexed now.trees
  pub none : AreAllIndexes [] (number_of r) now.trees
