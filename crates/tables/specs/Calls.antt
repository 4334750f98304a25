-- What a statement leaves, over the states of a connection.
-- This server's own words: a fact holds where the disk was clean, and what a statement does to a table is said where the schema is ours.
use Rattle.std.specs.Prelude.{◌≡◌, ℕ, ℤ, List, [], ◌∷◌, codes, Result, OnOk, IfOk, IsTrue}
use Rattle.sqlite_value.specs.Order.{Row}
use Rattle.sqlite_value.specs.declared.value.Value.TheVariants.{Int, Blob}
use Rattle.sqlite_trees.specs.declared.store.Store.{Ghosts}
use Rattle.sqlite_trees.specs.Tree.{Trees}
use Rattle.sqlite.specs.Effect.{Database}
use Rattle.sqlite.specs.Held.{Held, state}
use Rattle.sqlite.specs.State.{HasCleanDisk, IsUnchanged, Shown}
use Rattle.tables.specs.Schema.{schema}
use Rattle.tables.specs.Steps as steps

-- the transaction goes on
abbrev pub Stays : {S X E : Type 0} → Ghosts S → Held S → Held S → Result X E → Type 0
Stays g old new r = HasCleanDisk (state g new) → OnOk r (steps.StaysInside (state g old) (state g new))

-- nothing is committed, however the statement ends
abbrev pub Proceeds : {S : Type 0} → Ghosts S → Held S → Held S → Type 0
Proceeds g old new = steps.Proceeds (state g old) (state g new)

-- the schema stays ours
abbrev pub KeepsSchema : {S X E : Type 0} → Ghosts S → Held S → Held S → Result X E → Type 0
KeepsSchema g old new r = HasCleanDisk (state g new) → old.schema ≡ schema → OnOk r (new.schema ≡ schema)

-- What a change of one table leaves. If the table was fit for it, its rows are changed so and the others stay; whatever its rows are, the schema stays.
-- The transaction goes on, and nothing is committed.
pub record Alters {S X E : Type 0} (g : Ghosts S) (tree : ℕ) (IsFit : List Row → Type 0) (change : List Row → List Row) (old new : Held S) (r : Result X E) : Type 0 where
  pub ok : HasCleanDisk (state g new) → old.schema ≡ schema → IsFit ((state g old).now.trees tree) → OnOk r (steps.Changes tree (change ((state g old).now.trees tree)) (state g old).now (state g new).now)
  pub keeps : KeepsSchema g old new r
  pub inside : Stays g old new r
  pub proceeds : Proceeds g old new

-- an answer comes of an open connection alone
abbrev pub IsServed : {S X E : Type 0} → Ghosts S → Held S → Held S → Result X E → Type 0
IsServed g old new r = HasCleanDisk (state g new) → OnOk r (IsTrue (state g old).is_open)

-- and leaves the connection as it is
abbrev pub KeepsConnection : {S X E : Type 0} → Ghosts S → Held S → Held S → Result X E → Type 0
KeepsConnection g old new r = old.schema ≡ schema → HasCleanDisk (state g new) → OnOk r (IsUnchanged (state g old) (state g new))

-- in a transaction nothing is committed
abbrev pub LooksInside : {S : Type 0} → Ghosts S → Held S → Held S → Type 0
LooksInside g old new = old.schema ≡ schema → steps.Proceeds (state g old) (state g new)

-- and whatever the schema is, nothing is opened
abbrev pub AsksInside : {S : Type 0} → Ghosts S → Held S → Held S → Type 0
AsksInside g old new = steps.AsksInside (state g old) (state g new)

-- What a query leaves, and what it answers where the tables are fit for it.
pub record Reads {S X E : Type 0} (g : Ghosts S) (IsFit : Database → Type 0) (old new : Held S) (Is : Trees → X → Type 0) (r : Result X E) : Type 0 where
  pub found : HasCleanDisk (state g new) → IsFit (state g old).now → IfOk r (Is (state g old).now.trees)
  pub served : IsServed g old new r
  pub stands : KeepsConnection g old new r
  -- where it fails a transaction may be undone; nothing is written
  pub looks : old.schema ≡ schema → steps.OnlyLooks (state g old) (state g new)
  -- whatever the schema is, nothing is opened or begun
  pub asks : steps.Asks (state g old) (state g new)

-- the same in a transaction, of which nothing is committed
pub record ReadsInside {S X E : Type 0} (g : Ghosts S) (IsFit : Database → Type 0) (old new : Held S) (Is : Trees → X → Type 0) (r : Result X E) : Type 0 where
  pub found : HasCleanDisk (state g new) → IsFit (state g old).now → IfOk r (Is (state g old).now.trees)
  pub served : IsServed g old new r
  pub stands : KeepsConnection g old new r
  pub looks : LooksInside g old new
  pub asks : AsksInside g old new

-- the query of a document's row
abbrev pub document_query : List ℕ
document_query = codes "SELECT id, seq, winner, del FROM docs WHERE db = ?1 AND id = ?2"

-- it showed these rows of the document of this id, whatever the tables hold
abbrev pub ShowsDocument : {S : Type 0} → Ghosts S → ℤ → List ℕ → Held S → Held S → List Row → Type 0
ShowsDocument g db id old new rows = Shown document_query (Int db ∷ Blob id ∷ []) (state g old) (state g new) rows
