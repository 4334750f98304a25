-- What a statement leaves of a connection, whatever it reads or writes.
-- This server's own words for the states of a connection, which are those of the kit's SQLite.
use Rattle.std.specs.Prelude.{◌≡◌, ◌≢◌, ◌⊎◌, ℕ, true, false, List, [], Ok, IsTrue}
use Rattle.std.specs.List.{AllByRecursion}
use Rattle.sqlite_value.specs.Order.{Row}
use Rattle.sqlite_schema.specs.declared.schema.Schema.{Schema}
use Rattle.sqlite_schema.specs.declared.schema.Table.{Table}
use Rattle.sqlite_catalog.specs.Change.{created, next_tree, KeepsRows}
use Rattle.sqlite.specs.Effect.{Database}
use Rattle.sqlite.specs.State.{State, HasCleanDisk, Executes, KeepsCommit, Survives}

-- the statement ran as its text says
abbrev pub Ran : List ℕ → Row → State → State → Type 0
Ran sql params old new = (count : ℕ) × Executes sql params old new (Ok count)

-- the transaction goes on, and nothing was committed
pub record StaysInside (old new : State) : Type 0 where
  pub is_open : IsTrue new.is_open
  pub inside : new.in_transaction ≡ true
  pub committed : new.committed ≡ old.committed

-- what a statement of a transaction leaves, however it ends: nothing was committed, and after a crash none of it is found
pub record Proceeds (old new : State) : Type 0 where
  pub kept : HasCleanDisk new → KeepsCommit old new
  pub survives : Survives old new (λ _. ⊥)

-- what a query leaves, however it ends: the rows as they are, or as the last commit left them
pub record OnlyLooks (old new : State) : Type 0 where
  pub rows : HasCleanDisk new → IsTrue new.is_open → (new.now ≡ old.now) ⊎ (new.now ≡ old.committed)
  pub kept : HasCleanDisk new → KeepsCommit old new
  pub mode : old.in_transaction ≡ false → new.in_transaction ≡ false
  pub survives : Survives old new (λ _. ⊥)

-- what a query leaves whatever the schema is: what is clean was clean, what is open was open, and no transaction has begun
pub record Asks (old new : State) : Type 0 where
  pub clean : HasCleanDisk new → HasCleanDisk old
  pub was_open : HasCleanDisk new → IsTrue new.is_open → IsTrue old.is_open
  pub mode : old.in_transaction ≡ false → new.in_transaction ≡ false
  pub limit : new.step_limit ≡ old.step_limit

-- what a query of a transaction leaves whatever the schema is: what is open was open, and after a crash nothing of it is found
pub record AsksInside (old new : State) : Type 0 where
  pub was_open : HasCleanDisk new → IsTrue new.is_open → IsTrue old.is_open
  pub survives : Survives old new (λ _. ⊥)

-- the schema stays, one table has these rows now, and each other table has those that it had
pub record Changes (tree : ℕ) (now : List Row) (old new : Database) : Type 0 where
  pub schema : new.schema ≡ old.schema
  pub rows : new.trees tree ≡ now
  pub others : AllByRecursion (λ t. t.tree ≢ tree → new.trees t.tree ≡ old.trees t.tree) old.schema.tables

-- the schema has one more table, which is empty, and each other table has the rows that it had
pub record AddsTable (schema : Schema) (table : Table) (old new : Database) : Type 0 where
  pub schema_is : new.schema ≡ created schema table
  pub empty : new.trees (next_tree schema) ≡ []
  pub others : KeepsRows schema.tables old.trees new.trees
