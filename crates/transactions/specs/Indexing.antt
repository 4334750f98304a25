-- A write that the index rows follow: when it is done, and what it leaves.
-- This server's own: what index rows are to be is said by `index`, and what a write leaves of the other tables by `tables`.
use Rattle.std.specs.Prelude.{◌≡◌, ◌+◌, ◌&&◌, ◌||◌, ◌⊎◌, ℕ, ℤ, Bool, bytes_eq, false, pos, true, IfSome, IsTrue, List, Option, Vec, filter, map}
use Rattle.std.specs.List.{list_any}
use Rattle.std.specs.Ordering.{int_eq}
use Rattle.std.specs.declared.alloc.Global.{Global}
use Rattle.sqlite.specs.Effect.{Database}
use Rattle.sqlite.specs.Held.{Held, state}
use Rattle.sqlite.specs.State.{HasCleanDisk, State}
use Rattle.sqlite_trees.specs.declared.store.Store.{Ghosts}
use Rattle.sqlite_trees.specs.Tree.{Trees}
use Rattle.sqlite_value.specs.Order.{Row}
use Rattle.store.specs.Database.{DocumentWrite}
use Rattle.store.specs.Lawful.{AllEndAtLast}
use Rattle.store.specs.Writing.{Addition, written_in}
use Rattle.tables.specs.Edits.{IsWrite}
use Rattle.tables.specs.Layout.{IsStore}
use Rattle.tables.specs.Rows.{contents_in, history_in_rows, sequence_of_database, number_of}
use Rattle.tables.specs.Schema.{decls_tree, revs_tree}
use Rattle.index.specs.Calls.{ChangesIndexes}
use Rattle.index.specs.Indexed.{AreIndexed, IsIndexed}
use Rattle.index.specs.Meaning.{Declarations, Documents, declares_in, sees_in, with_declared}
use Rattle.index.specs.Rows.{declared_by, is_at_home}
use Rattle.index.specs.Shown.{Declared, declared, declared_at}
use Rattle.index.specs.declared.declaration.Declaration.{Declaration}
use Rattle.index.specs.declared.fault.IndexFault.{IndexFault}
use Rattle.index.specs.declared.fault.IndexFault.TheVariants as index
use Rattle.store.specs.declared.fault.StoreFault.TheVariants.{Memory, Damaged}
use Rattle.tree.specs.DocumentId.{is_design_id}
use Rattle.tree.specs.Outline.{marked_winner}
use Rattle.tree.specs.declared.marked_rev.MarkedRev.{MarkedRev}
use Rattle.transactions.specs.inner.Following.{HasPlaceFor}
use Rattle.transactions.specs.inner.Inserting.{IsLawfulAddition}
use Rattle.transactions.specs.Sequences.{Clears}
use Rattle.transactions.specs.declared.commit_fault.CommitFault.{CommitFault}
use Rattle.transactions.specs.declared.commit_fault.CommitFault.TheVariants as fault

-- the tables are laid out, and the rows of indexes are those of what is stored beside them
pub record IsIndexedStore (db : Database) : Type 0 where
  pub store : IsStore db
  pub indexed : IsIndexed db.trees

-- The same between two calls, where the sequence of each database is that of its last document. Within a call the sequence moves first.
pub record IsCommittedStore (db : Database) : Type 0 where
  pub rows : IsIndexedStore db
  pub ends : ∥ AllEndAtLast (contents_in db.trees) ∥₁

-- these are all indexes of the database of this number
abbrev pub AreAllIndexes : List Declared → ℤ → Trees → Type 0
AreAllIndexes all db trees = all ≡ map declared_at (filter (is_at_home db) (trees decls_tree))

-- these are all indexes of the database, where they are known
abbrev pub AreKnownIndexes : Option (Vec Declaration Global) → ℤ → Trees → Type 0
AreKnownIndexes known db trees = IfSome known (λ all. AreAllIndexes (map declared all.items) db trees)

-- the write of a document in the database that has this row
abbrev pub write_in : Trees → Row → Addition → DocumentWrite
write_in trees r a = written_in (history_in_rows (trees revs_tree) (number_of r) a.id) a

-- the design document of this id in the database of the number d is one of these of the database of the other
abbrev pub is_postponed : ℤ → List (List ℕ) → ℤ → List ℕ → Bool
is_postponed db ids d design = int_eq d db && list_any (bytes_eq design) ids

-- The rows of indexes are those of the declarations that they say themselves, over what queries see. These are those that are stored, but for
-- these design documents of the database of this number, whose indexes don't follow them yet.
pub record IsIndexedBut (db : ℤ) (ids : List (List ℕ)) (trees : Trees) : Type 0 where
  pub indexed : AreIndexed (declared_by (trees decls_tree)) (sees_in trees) trees
  pub declared : (d : ℤ) (design name : List ℕ) → is_postponed db ids d design ≡ false → declared_by (trees decls_tree) d design name ≡ declares_in trees d design name
  pub designs : (id : List ℕ) → list_any (bytes_eq id) ids ≡ true → is_design_id id ≡ true

-- and the tables are laid out
pub record IsIndexedStoreBut (db : ℤ) (ids : List (List ℕ)) (b : Database) : Type 0 where
  pub store : IsStore b
  pub indexed : IsIndexedBut db ids b.trees

-- the statements of the write, and after them the rows of indexes alone have changed: they are those of what is stored now, but for these
-- design documents
pub record IsFollowed (db : ℤ) (ids : List (List ℕ)) (r : Row) (w : DocumentWrite) (old new : Database) : Type 0 where
  pub written : Database
  pub write : IsWrite r w old written
  pub only : ChangesIndexes written new
  pub indexed : IsIndexedBut db ids new.trees

-- this id is among these beside those that were
abbrev pub IsWithId : List ℕ → List (List ℕ) → List (List ℕ) → Type 0
IsWithId id old new = (other : List ℕ) → list_any (bytes_eq other) new ≡ (bytes_eq other id || list_any (bytes_eq other) old)

-- a design document that had this winner has it still, or is among these now
abbrev pub IsNoted : ℤ → List ℕ → Option MarkedRev → List (List ℕ) → List (List ℕ) → Trees → Type 0
IsNoted db id winner old new trees = ((winner ≡ marked_winner (history_in_rows (trees revs_tree) db id)) × (new ≡ old)) ⊎ IsWithId id old new

-- what the write leaves in the database that has this row is a store, if rows can say what it says
abbrev pub LeavesStore : Row → Addition → Database → Type 0
LeavesStore row a old = IsLawfulAddition a → (written : Database) → IsWrite row (write_in old.trees row a) old written → IsStore written

-- The write may be done under this sequence. As an example, a database has the number 3, and 7 is its last sequence: then 8 is the next one, and the
-- path 2-b, 1-a has its place where the history of the document knows 1-a and not 2-b.
pub record MayBeWritten (db sequence : ℤ) (a : Addition) (old : Database) : Type 0 where
  -- this is the row of the database
  pub row : Row
  pub numbered : db ≡ number_of row
  -- the sequence is the next one
  pub at : sequence ≡ pos (sequence_of_database row + 1)
  -- the path of the write has its place
  pub placed : HasPlaceFor (history_in_rows (old.trees revs_tree) (number_of row) a.id) a
  -- and the tables are a store with it
  pub store : LeavesStore row a old

-- the disk returned what was written, and an open connection had tables and index rows that were sound, of which this held
abbrev pub IsSoundIndexed : {S : Type 0} → Ghosts S → (Database → Type 0) → Held S → Held S → Type 0
IsSoundIndexed g Holds old new = HasCleanDisk (state g new) × (IsTrue (state g old).is_open → IsIndexedStore (state g old).now × Holds (state g old).now)

-- the same of tables whose index rows are sound but for these design documents
abbrev pub IsSoundBut : {S : Type 0} → Ghosts S → ℤ → List (List ℕ) → (Database → Type 0) → Held S → Held S → Type 0
IsSoundBut g db ids Holds old new = HasCleanDisk (state g new) × (IsTrue (state g old).is_open → IsIndexedStoreBut db ids (state g old).now × Holds (state g old).now)

-- the tables and the transaction are as they were, and an open connection is open
pub record IsLeft (old new : State) : Type 0 where
  pub now_is : new.now ≡ old.now
  pub mode : new.in_transaction ≡ old.in_transaction
  pub is_open : IsTrue old.is_open → IsTrue new.is_open

-- a fault of indexes, as one of a commit
abbrev pub of_index_fault : IndexFault → CommitFault
of_index_fault (index.Sqlite e) = fault.Sqlite e
of_index_fault index.Memory = fault.Store Memory
of_index_fault index.Damaged = fault.Store Damaged

-- the rows of the database are taken out, and then those of its indexes alone have changed: they are those of what is left
pub record IsRemoved (db : ℤ) (old new : Database) : Type 0 where
  pub cleared : Database
  pub clears : Clears db old cleared
  pub only : ChangesIndexes cleared new
  pub indexed : IsIndexed new.trees

-- the indexes that this design document declares are those that its winner says now, and no table but theirs has changed
pub record IsRedeclared (declares : Declarations) (sees : Documents) (db : ℤ) (design : List ℕ) (old new : Database) : Type 0 where
  pub indexed : AreIndexed (with_declared declares db design (λ name. declares_in old.trees db design name)) sees new.trees
  pub only : ChangesIndexes old new
