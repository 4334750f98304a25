-- What a store over SQLite holds, when clauses say something of it, and what a reader leaves.
-- This server's own: the contents are those of the rows as the last change left them; the words of calls are those of the trait `Store`.
use Rattle.std.specs.Prelude.{◌≡◌, ◌≤◌, ◌<◌, ◌+◌, ◌^◌, ℕ, false, List, length, Option, Some, Result, IfErr, IfOk}
use Rattle.std.specs.FinMap.{get}
use Rattle.sqlite_trees.specs.declared.store.Store.{Ghosts}
use Rattle.sqlite_trees.specs.Tree.{Trees}
use Rattle.sqlite_sql.specs.Ops.{fits_i64}
use Rattle.sqlite.specs.Held.{state}
use Rattle.sqlite.specs.State.{HasCleanDisk}
use Rattle.store.specs.Contents.{Contents}
use Rattle.store.specs.Database.{Database, DocumentWrite}
use Rattle.store.specs.Leaving as leaving
use Rattle.store.specs.declared.fault.StoreFault.{StoreFault}
use Rattle.sqlstore.specs.inner.Causes.{IsJudged}
use Rattle.sqlstore.specs.Standing.{WasStore}
use Rattle.tables.specs.Rows.{contents_in, next_number}
use Rattle.tables.specs.Schema.{dbs_tree}
use Rattle.sqlstore.specs.declared.sql_store.SqlStore.{SqlStore}

module _ {S : Type 0} (g : Ghosts S) where
  -- the rows as the last change left them
  abbrev pub trees_of : SqlStore S g → Trees
  trees_of s = (state g s.last.value).now.trees

  -- the databases that a store holds
  abbrev pub contents_of : SqlStore S g → Contents
  contents_of s = contents_in (trees_of s)

  -- the disk returned what was written
  abbrev pub is_clean : SqlStore S g → Type 0
  is_clean s = HasCleanDisk (state g s.conn)

  -- and the tables were laid out, with sound rows of indexes, when the store was opened
  abbrev pub is_honest : SqlStore S g → Type 0
  is_honest s = is_clean s × WasStore g s.origin.value

  abbrev pub fault_count : SqlStore S g → ℕ
  fault_count s = s.faults

  -- the sequence of the database would not fit
  abbrev pub lacks_room : SqlStore S g → List ℕ → List DocumentWrite → Type 0
  lacks_room s name ws = (db : Database) × (get (contents_of s) name ≡ Some db) × ¬ (db.length + length ws < 2 ^ 63)

  -- the number of the database would not fit
  abbrev pub lacks_number : SqlStore S g → Type 0
  lacks_number s = fits_i64 (next_number (trees_of s dbs_tree)) ≡ false

  -- a reader moves the connection and the count alone
  pub record Stands (old new : SqlStore S g) : Type 0 where
    pub origin : new.origin.value ≡ old.origin.value
    pub last : new.last.value ≡ old.last.value
    pub counted : old.faults ≤ new.faults
    pub clean : is_clean new → is_clean old

  -- what a query answers, of the rows as the last change left them, and what it leaves
  pub record Finds {X : Type 0} (Is : Trees → X → Type 0) (old new : SqlStore S g) (r : Result X StoreFault) : Type 0 where
    pub found : is_honest new → IfOk r (Is (trees_of old))
    pub judged : IfErr r (IsJudged old.faults new.faults)
    pub stands : Stands old new

  abbrev pub OnlyReads : SqlStore S g → SqlStore S g → Type 0
  OnlyReads old new = leaving.OnlyReads contents_of is_honest is_clean fault_count lacks_room lacks_number old new

  abbrev pub Answers : {X A : Type 0} → SqlStore S g → SqlStore S g → (X → A) → Option A → Result X StoreFault → Type 0
  Answers old new shown defined result = leaving.Answers is_honest fault_count old new shown defined result

  -- a change keeps what the store was opened with, and the count of faults
  pub record Moves (old new : SqlStore S g) : Type 0 where
    pub origin : new.origin.value ≡ old.origin.value
    pub counted : old.faults ≤ new.faults
    pub clean : is_clean new → is_clean old

  abbrev pub ChangesWhole : {X F : Type 0} → SqlStore S g → SqlStore S g → Result X F → Type 0
  ChangesWhole old new result = leaving.ChangesWhole contents_of is_honest is_clean fault_count old new result
