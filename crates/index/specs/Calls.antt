-- The words of the contracts, at a connection.
-- This server's own: what a statement leaves is said by `tables`.
use Rattle.std.specs.Prelude.{◌≡◌, ◌≢◌, ⊤, true, false, ℕ, ℤ, IsTrue, List, filter, map, Option, Some, Result, IfOk, OnOk}
use Rattle.std.specs.List.{AllByRecursion}
use Rattle.couch_json.specs.Value.{Value}
use Rattle.couch_json.specs.View.{view}
use Rattle.couch_json.specs.declared.value.Json.{Json}
use Rattle.sqlite.specs.Effect.{Database}
use Rattle.sqlite.specs.Held.{Held, state}
use Rattle.sqlite.specs.State.{HasCleanDisk}
use Rattle.sqlite_trees.specs.declared.store.Store.{Ghosts}
use Rattle.tables.specs.Layout.{IsDocumentRow, IsStore}
use Rattle.tables.specs.Rows.{db_of, id_of, is_gone_row}
use Rattle.tree.specs.DocumentId.{is_design_id}
use Rattle.tables.specs.Schema.{schema, decls_tree, entries_tree}
use Rattle.tables.specs.declared.decode.ListedDocument.{ListedDocument}
use Rattle.sqlite_value.specs.Order.{Row}
use Rattle.index.specs.Indexed.{AreEntriesOf, AreIndexed, Entries, is_due, with_key, without_numbers}
use Rattle.index.specs.Layout.{AreDeclarationRows, HasIndexRows}
use Rattle.index.specs.Meaning.{Declarations, Documents, is_key, sees_in, with_seen, without_declared}
use Rattle.index.specs.Rows.{is_at_home}
use Rattle.index.specs.inner.Seen.{IsListedAs}
use Rattle.index.specs.Shown.{Declared, declared_at}
use Rattle.index.specs.declared.fault.IndexFault.{IndexFault}
use Rattle.index.specs.declared.fault.IndexFault.TheVariants as fault

-- why index rows were not read or changed: a statement failed, memory ran out, or what was read is not intact
abbrev pub IsRefused : Type 0 → IndexFault → Type 0
IsRefused intact (fault.Sqlite e) = ⊤
IsRefused intact fault.Memory = ⊤
IsRefused intact fault.Damaged = ¬ intact

-- the disk returned what was written, and the rows of indexes of an open connection were laid out
abbrev pub IsSound : {S : Type 0} → Ghosts S → Held S → Held S → Type 0
IsSound g old new = HasCleanDisk (state g new) × (IsTrue (state g old).is_open → HasIndexRows (state g old).now)

-- an open transaction goes on
abbrev pub StaysOpen : {S X E : Type 0} → Ghosts S → Held S → Held S → Result X E → Type 0
StaysOpen g old new r = HasCleanDisk (state g new) → IsTrue (state g old).is_open → (state g old).in_transaction ≡ true → OnOk r (IsTrue (state g new).is_open × ((state g new).in_transaction ≡ true))

-- the schema stays, and each table but one has the rows that it had
pub record ChangesOnly (tree : ℕ) (old new : Database) : Type 0 where
  pub schema : new.schema ≡ old.schema
  pub others : AllByRecursion (λ t. t.tree ≢ tree → new.trees t.tree ≡ old.trees t.tree) old.schema.tables

-- the schema stays, and each table but those of indexes has the rows that it had
pub record ChangesIndexes (old new : Database) : Type 0 where
  pub schema : new.schema ≡ old.schema
  pub others : AllByRecursion (λ t. t.tree ≢ decls_tree → t.tree ≢ entries_tree → new.trees t.tree ≡ old.trees t.tree) old.schema.tables

-- there are these entries now, and nothing else has changed
pub record HasEntries (due : Entries) (old new : Database) : Type 0 where
  pub entries : AreEntriesOf due (new.trees entries_tree)
  pub only : ChangesOnly entries_tree old new

-- the document of this id, which had the key `before` in the index of this declaration, has the key `after`
abbrev pub ReplacesKey : {S X E : Type 0} → Ghosts S → ℤ → List ℕ → Option (List ℕ) → Option (List ℕ) → Held S → Held S → Result X E → Type 0
ReplacesKey g declaration id before after old new r =
    HasCleanDisk (state g new) → old.schema ≡ schema → (due : Entries) → AreEntriesOf due ((state g old).now.trees entries_tree) → ((k : List ℕ) → due declaration k id ≡ is_key before k)
    → OnOk r (HasEntries (with_key due declaration id after) (state g old).now (state g new).now)

-- The index rows of a database follow a document of which another is seen, or none: if they were those of declarations over documents,
-- they are those of the same declarations over the documents with that one, and no other table changes.
abbrev pub Refreshes : {S X E : Type 0} → Ghosts S → ℤ → List ℕ → Option Value → Option Value → Held S → Held S → Result X E → Type 0
Refreshes g db id before after old new r =
    HasCleanDisk (state g new) → old.schema ≡ schema → (declares : Declarations) (sees : Documents) → AreIndexed declares sees (state g old).now.trees → sees db id ≡ before
    → OnOk r (AreIndexed declares (with_seen sees db id after) (state g new).now.trees × ChangesOnly entries_tree (state g old).now (state g new).now)

-- The entries are up to date: they are what these declarations want of these documents. `all` are the declarations of a
-- database, and `seen` is what queries see of one of its documents.
pub record AreUpToDate (db : ℤ) (all : List Declared) (id : List ℕ) (seen : Option Value) (decls : List Row) (sees : Documents) (entries : List Row) : Type 0 where
  pub laid : AreDeclarationRows decls
  pub own : all ≡ map declared_at (filter (is_at_home db) decls)
  pub due : AreEntriesOf (is_due sees decls) entries
  pub now : sees db id ≡ seen

-- These indexes, which are all of a database, follow a document of which another is seen, or none.
abbrev pub FollowsAll : {S X E : Type 0} → Ghosts S → ℤ → List Declared → List ℕ → Option Value → Option Value → Held S → Held S → Result X E → Type 0
FollowsAll g db all id before after old new r =
    HasCleanDisk (state g new) → old.schema ≡ schema → (decls : List Row) (sees : Documents) → AreUpToDate db all id before decls sees ((state g old).now.trees entries_tree)
    → OnOk r (HasEntries (is_due (with_seen sees db id after) decls) (state g old).now (state g new).now)

-- The entries of these indexes are taken out, and nothing else.
abbrev pub ClearsEntries : {S X E : Type 0} → Ghosts S → List Declared → Held S → Held S → Result X E → Type 0
ClearsEntries g all old new r =
    HasCleanDisk (state g new) → old.schema ≡ schema → (due : Entries) → AreEntriesOf due ((state g old).now.trees entries_tree)
    → OnOk r (HasEntries (without_numbers due (map (λ (d : Declared). d.number) all)) (state g old).now (state g new).now)

-- the database declares nothing, as its rows say, and no table but those of indexes has changed
pub record IsDropped (declares : Declarations) (sees : Documents) (db : ℤ) (old new : Database) : Type 0 where
  pub indexed : AreIndexed (without_declared declares db) sees new.trees
  pub only : ChangesIndexes old new

-- These indexes, which are all of a database, are taken out with their entries.
abbrev pub ClearsAll : {S X E : Type 0} → Ghosts S → ℤ → List Declared → Held S → Held S → Result X E → Type 0
ClearsAll g db all old new r =
    HasCleanDisk (state g new) → old.schema ≡ schema → (declares : Declarations) (sees : Documents) → AreIndexed declares sees (state g old).now.trees
    → all ≡ map declared_at (filter (is_at_home db) ((state g old).now.trees decls_tree)) → OnOk r (IsDropped declares sees db (state g old).now (state g new).now)

-- The indexes of a database are taken out: if the index rows were those of declarations over documents, they are those of the
-- declarations of all other databases.
abbrev pub Drops : {S X E : Type 0} → Ghosts S → ℤ → Held S → Held S → Result X E → Type 0
Drops g db old new r =
    HasCleanDisk (state g new) → old.schema ≡ schema → (declares : Declarations) (sees : Documents) → AreIndexed declares sees (state g old).now.trees
    → OnOk r (IsDropped declares sees db (state g old).now (state g new).now)

-- What is found of a document that is neither deleted nor a design document is what queries see of it.
abbrev pub FindsLive : {S E : Type 0} → Ghosts S → ℤ → ListedDocument → Held S → Held S → Result Json E → Type 0
FindsLive g db listed old new r =
    HasCleanDisk (state g new) → IsStore (state g old).now → (d : Row) → IsDocumentRow (state g old).now.trees d → db_of d ≡ db → IsListedAs d listed
    → is_gone_row d ≡ false → is_design_id (id_of d) ≡ false → IfOk r (λ seen. Some (view seen) ≡ sees_in (state g old).now.trees db (id_of d))
