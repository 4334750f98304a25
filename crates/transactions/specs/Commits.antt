-- Writes of a database that are committed together: when they may be done, and why they are not.
-- This server's own: when writes are acceptable is said by `store`, and where they are kept by `tables`.
use Rattle.std.specs.Prelude.{◌≡◌, ℕ, ℤ, IsTrue, List, filter, not, slice_get, Some, ⊤}
use Rattle.sqlite_trees.specs.declared.store.Store.{Ghosts}
use Rattle.sqlite_trees.specs.Tree.{Trees}
use Rattle.sqlite_value.specs.Order.{Row}
use Rattle.sqlite.specs.Effect.{Database}
use Rattle.sqlite.specs.Held.{Held, state}
use Rattle.sqlite.specs.State.{HasCleanDisk}
use Rattle.store.specs.Contents.{AreAcceptable}
use Rattle.store.specs.Plain.{with_addition}
use Rattle.store.specs.Writing.{Addition, writings_in}
use Rattle.tables.specs.Layout.{IsStore}
use Rattle.tables.specs.Rows.{database_of_row, has_number, history_in_rows, is_named, sequence_of_database, number_of}
use Rattle.tables.specs.Schema.{dbs_tree, revs_tree}
use Rattle.tree.specs.History.{HistoryContent}
use Rattle.transactions.specs.Reading.{IsLost}
use Rattle.transactions.specs.declared.commit_fault.CommitFault.{CommitFault}
use Rattle.transactions.specs.declared.commit_fault.CommitFault.TheVariants as write

-- the database of this name has this number and this sequence, and the writes may be appended to it, each after those before it
pub record AreDue (all : List Addition) (name : List ℕ) (number : ℤ) (sequence : ℕ) (trees : Trees) : Type 0 where
  pub row : Row
  pub first : slice_get (filter (is_named name) (trees dbs_tree)) 0 ≡ Some row
  pub numbered : number_of row ≡ number
  pub counted : sequence_of_database row ≡ sequence
  pub acceptable : AreAcceptable (database_of_row trees row) (writings_in (database_of_row trees row) all)

-- the rows of all databases but the one of this number are as they were
abbrev pub KeepsOthers : ℤ → Database → Database → Type 0
KeepsOthers db old new = filter (λ r. not (has_number db r)) (new.trees dbs_tree) ≡ filter (λ r. not (has_number db r)) (old.trees dbs_tree)

-- the disk returned what was written, and an open connection had tables that were laid out, of which this held
abbrev pub IsSound : {S : Type 0} → Ghosts S → (Trees → Type 0) → Held S → Held S → Type 0
IsSound g Holds old new = HasCleanDisk (state g new) × (IsTrue (state g old).is_open → IsStore (state g old).now × Holds (state g old).now.trees)

-- the history of the write's document, with the write
abbrev pub history_with : Trees → ℤ → Addition → HistoryContent
history_with trees db a = with_addition (history_in_rows (trees revs_tree) db a.id) a

-- why writes were not done: a statement failed, memory ran out, or what was read is not intact
abbrev pub IsUnwritten : Type 0 → CommitFault → Type 0
IsUnwritten intact (write.Sqlite e) = ⊤
IsUnwritten intact (write.Store fault) = IsLost intact fault
