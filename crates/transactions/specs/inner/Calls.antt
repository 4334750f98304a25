-- What the calls within a transaction leave, and why they are refused: the facts that are stated of nearly each of them.
-- This server's own: what one statement leaves is said by `tables`, and what a write makes of the tables by the files beside this one.
use Rattle.std.specs.Prelude.{◌≡◌, ℕ, ℤ, IfErr, IfOk, IsTrue, List, OnOk, Result, true}
use Rattle.std.specs.BTreeMap.{BTreeMap}
use Rattle.sqlite.specs.Effect.{Database}
use Rattle.sqlite.specs.Held.{Held, state}
use Rattle.sqlite.specs.State.{HasCleanDisk, KeepsCommit}
use Rattle.sqlite_trees.specs.Tree.{Trees}
use Rattle.sqlite_trees.specs.declared.store.Store.{Ghosts}
use Rattle.sqlite_value.specs.Order.{Row}
use Rattle.store.specs.Writing.{Addition, writings_in, written_in}
use Rattle.tables.specs.Calls.{AsksInside, IsServed, KeepsConnection, LooksInside, Proceeds, Stays}
use Rattle.tables.specs.Edits.{HasWritten}
use Rattle.tables.specs.Layout.{IsStore}
use Rattle.tables.specs.Rows.{database_of_row}
use Rattle.tree.specs.History.{HistoryContent}
use Rattle.index.specs.Indexed.{IsIndexed}
use Rattle.index.specs.Shown.{Declared}
use Rattle.index.specs.Steps.{AreFit, Steps}
use Rattle.store.specs.Plain.{with_addition}
use Rattle.transactions.specs.Commits.{AreDue, IsSound, IsUnwritten, KeepsOthers, history_with}
use Rattle.transactions.specs.Indexing.{AreAllIndexes, IsFollowed, IsIndexedStore, IsIndexedStoreBut, IsSoundBut, IsSoundIndexed, MayBeWritten, write_in}
use Rattle.transactions.specs.Reading.{HasBest}
use Rattle.transactions.specs.declared.commit_fault.CommitFault.{CommitFault}
use Rattle.transactions.specs.inner.Histories.{AreHeld, IsHeldOpen, IsWithin, stored_history}
use Rattle.transactions.specs.inner.Inserting.{IsLawfulAddition}
use Rattle.transactions.specs.inner.Placed.{IsPlacedWrite}

module _ {S : Type 0} (g : Ghosts S) where
  -- the database that an open transaction sees
  abbrev pub open_in : Held S → Database
  open_in h = (state g h).now

  -- of the tables before a call this holds, where they were laid out and the disk returned what was written
  abbrev pub OverStore : Held S → Held S → (Trees → Type 0) → Type 0
  OverStore old new Holds = HasCleanDisk (state g new) → IsStore (open_in old) → Holds (open_in old).trees

  -- the connection is open, and in the transaction
  abbrev pub IsOpenInside : Held S → Type 0
  IsOpenInside h = IsTrue (state g h).is_open × ((state g h).in_transaction ≡ true)

  -- What a reader answers where the tables are laid out, and why it doesn't answer: of the tables that are intact this holds. It leaves them as they are.
  pub record Finds {X : Type 0} (Holds : Trees → Type 0) (Is : Trees → X → Type 0) (old new : Held S) (r : Result X CommitFault) : Type 0 where
    pub ok : HasCleanDisk (state g new) → IsStore (open_in old) → IfOk r (Is (open_in old).trees)
    pub err : IfErr r (IsUnwritten (IsSound g Holds old new))
    pub stands : KeepsConnection g old new r
    pub served : IsServed g old new r
    pub looks : LooksInside g old new
    pub asks : AsksInside g old new

  -- the statements of a write were run, but for the one that moves the sequence of its database
  abbrev pub PlacesWrite : {X E : Type 0} → ℤ → ℤ → Addition → Held S → Held S → Result X E → Type 0
  PlacesWrite db sequence a old new r = OnOk r (IsPlacedWrite db sequence (written_in (stored_history (open_in old).trees db a.id) a) (open_in old) (open_in new))

  -- What the statements of a write leave, by a history that says what the write asks of the document's own, and why they are not all run: the
  -- history has a best revision with the write.
  pub record PutsWrite {X : Type 0} (Suits : HistoryContent → Type 0) (asked : HistoryContent) (db sequence : ℤ) (a : Addition) (old new : Held S) (r : Result X CommitFault) : Type 0 where
    pub ok : HasCleanDisk (state g new) → IsStore (open_in old) → Suits (stored_history (open_in old).trees db a.id) → PlacesWrite db sequence a old new r
    pub err : IfErr r (IsUnwritten (HasBest (with_addition asked a)))
    pub lawful : OnOk r (IsLawfulAddition a)
    pub inside : Stays g old new r
    pub proceeds : Proceeds g old new

  -- What a write leaves whose history is read for it, beside what it makes of the tables: what is told of the history with the write; and why it is
  -- not done.
  pub record LoadsAndWrites {X : Type 0} (Tells : HistoryContent → X → Type 0) (Holds : Trees → Type 0) (db : ℤ) (a : Addition) (old new : Held S) (r : Result X CommitFault) : Type 0 where
    pub after : HasCleanDisk (state g new) → IsStore (open_in old) → IfOk r (Tells (history_with (open_in old).trees db a))
    pub err : IfErr r (IsUnwritten (IsSound g (λ trees. Holds trees × HasBest (history_with trees db a)) old new))
    pub lawful : OnOk r (IsLawfulAddition a)
    pub inside : HasCleanDisk (state g new) → OnOk r (IsOpenInside new)
    pub looks : LooksInside g old new
    pub asks : AsksInside g old new

  -- The same of a write whose history may be one of those that were read: then no other history is held than is stored.
  pub record WritesByHeld {X : Type 0} (db : ℤ) (a : Addition) (before then : BTreeMap (List ℕ) HistoryContent) (old new : Held S) (r : Result X CommitFault) : Type 0 where
    pub after : HasCleanDisk (state g new) → IsStore (open_in old) → AreHeld before db (open_in old).trees
        → OnOk r (IsWithin before a.id (history_with (open_in old).trees db a) then)
    pub err : IfErr r (IsUnwritten (IsHeldOpen before (state g old) × IsSound g (λ trees. AreHeld before db trees × HasBest (history_with trees db a)) old new))
    pub lawful : OnOk r (IsLawfulAddition a)
    pub inside : HasCleanDisk (state g new) → OnOk r (IsOpenInside new)
    pub looks : LooksInside g old new
    pub asks : AsksInside g old new

  -- ---- writes that the rows of indexes follow

  -- The write is done and the rows of indexes follow it, but for the design documents that are postponed then; the database has the same indexes.
  abbrev pub IndexesWrite : {X E : Type 0} → ℤ → ℤ → Addition → BTreeMap (List ℕ) HistoryContent → List Declared → List (List ℕ) → List (List ℕ) → Held S → Held S → Result X E → Type 0
  IndexesWrite db sequence a held all postponed then old new r =
      HasCleanDisk (state g new) → IsIndexedStoreBut db postponed (open_in old) → AreAllIndexes all db (open_in old).trees → AreHeld held db (open_in old).trees
      → (due : MayBeWritten db sequence a (open_in old))
      → OnOk r (IsFollowed db then due.row (write_in (open_in old).trees due.row a) (open_in old) (open_in new) × AreAllIndexes all db (open_in new).trees)

  -- What such a write leaves beside that. The tables were fit for it: the histories are held, and it may be done.
  pub record WritesFollowed {X : Type 0} (db sequence : ℤ) (a : Addition) (before then : BTreeMap (List ℕ) HistoryContent) (old new : Held S) (r : Result X CommitFault) : Type 0 where
    pub after : HasCleanDisk (state g new) → IsStore (open_in old) → AreHeld before db (open_in old).trees
        → OnOk r (IsWithin before a.id (history_with (open_in old).trees db a) then)
    pub err : (ids : List (List ℕ))
        → IfErr r (IsUnwritten (IsHeldOpen before (state g old)
        × IsSoundBut g db ids (λ d. AreHeld before db d.trees × HasBest (history_with d.trees db a) × MayBeWritten db sequence a d) old new))
    pub lawful : OnOk r (IsLawfulAddition a)
    pub inside : HasCleanDisk (state g new) → IsStore (open_in old) → AreHeld before db (open_in old).trees → MayBeWritten db sequence a (open_in old) → OnOk r (IsOpenInside new)
    pub kept : HasCleanDisk (state g new) → IsStore (open_in old) → AreHeld before db (open_in old).trees → MayBeWritten db sequence a (open_in old) → KeepsCommit (state g old) (state g new)
    pub served : IsServed g old new r
    pub asks : AsksInside g old new

  -- ---- several writes

  -- What writes of a database leave that are done together, of its tables and of the transaction. `Then` is what is told of the indexes that it has then.
  pub record AreWritten {X : Type 0} (all : List Addition) (name : List ℕ) (db : ℤ) (row : Row) (Then : X → Trees → Type 0) (old new : Held S) (r : Result X CommitFault) : Type 0 where
    pub ok : IfOk r (λ x. HasWritten (writings_in (database_of_row (open_in old).trees row) all) name row (open_in old) (open_in new) × IsIndexed (open_in new).trees × Then x (open_in new).trees)
    pub others : OnOk r (KeepsOthers db (open_in old) (open_in new))
    pub kept : KeepsCommit (state g old) (state g new)
    pub inside : (state g old).in_transaction ≡ true → OnOk r ((state g new).in_transaction ≡ true)

  -- They are done where they are due, and where this is known of the indexes of the database; and why they are not done.
  pub record WritesAll {X : Type 0} (all : List Addition) (db : ℤ) (sequence : ℕ) (Known : Trees → Type 0) (Then : X → Trees → Type 0) (old new : Held S) (r : Result X CommitFault) : Type 0 where
    pub done : (name : List ℕ) → HasCleanDisk (state g new) → IsIndexedStore (open_in old) → Known (open_in old).trees → (due : AreDue all name db sequence (open_in old).trees)
        → AreWritten all name db due.row Then old new r
    pub err : (name : List ℕ) → IfErr r (IsUnwritten (IsSoundIndexed g (λ d. Known d.trees × AreDue all name db sequence d.trees) old new))
    pub asks : AsksInside g old new

  -- ---- steps of a change of the rows of indexes

  -- a step of such a change, and why it is not made: the tables were fit for it
  pub record MakesStep {X : Type 0} (IsFit : Database → Type 0) (Gives : Database → Database → Type 0) (old new : Held S) (r : Result X CommitFault) : Type 0 where
    pub steps : Steps g IsFit Gives old new r
    pub err : IfErr r (IsUnwritten (AreFit g IsFit old new))
