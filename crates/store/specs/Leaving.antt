-- What a call of a store leaves, and what a reader answers: for the clauses of the trait `Store`, over its ghost members.
-- This server's own: what is honest was honest, what is stored changes whole or not at all, and no fault is forgotten.
use Rattle.std.specs.Prelude.{◌≡◌, ◌≤◌, ℕ, List, Option, Some, None, Result, Ok, Err, OnErr, ⊤}
use Rattle.store.specs.Causes.{HasFailed}
use Rattle.store.specs.Contents.{Contents}
use Rattle.store.specs.Database.{DocumentWrite}
use Rattle.store.specs.declared.fault.StoreFault.{StoreFault}
use Rattle.store.specs.declared.fault.StoreFault.TheVariants.{Memory, Failed, NoDatabase, Exists, Damaged, Full}

-- What every call leaves: the count of faults never falls, an honest store was honest, what is clean was clean, and an honest store
-- that stays clean stays honest.
pub record Progresses {S : Type 0} (is_honest is_clean : S → Type 0) (fault_count : S → ℕ) (old new : S) : Type 0 where
  pub counted : fault_count old ≤ fault_count new
  pub honest : is_honest new → is_honest old
  pub clean : is_clean new → is_clean old
  pub steady : is_honest old → is_clean new → is_honest new

-- what a reader leaves: the contents as they are, and no less room than there was
pub record OnlyReads {S : Type 0} (contents : S → Contents) (is_honest is_clean : S → Type 0) (fault_count : S → ℕ) (lacks_room : S → List ℕ → List DocumentWrite → Type 0) (lacks_number : S → Type 0) (old new : S) : Type 0 where
  pub goes_on : Progresses is_honest is_clean fault_count old new
  pub same : is_honest new → contents new ≡ contents old
  pub room : is_honest new → (name : List ℕ) (ws : List DocumentWrite) → lacks_room new name ws → lacks_room old name ws
  pub numbers : is_honest new → lacks_number new → lacks_number old

-- what a change leaves: where it is refused, the contents as they are
pub record ChangesWhole {S X F : Type 0} (contents : S → Contents) (is_honest is_clean : S → Type 0) (fault_count : S → ℕ) (old new : S) (result : Result X F) : Type 0 where
  pub goes_on : Progresses is_honest is_clean fault_count old new
  pub refused : is_honest new → OnErr result (contents new ≡ contents old)

-- What a reader of a database answers: what is defined there; that there is no such database, only where nothing is defined; or want
-- of memory or a fault, with its cause. It is never told that the database exists or that the store is full.
abbrev pub Answers : {S X A : Type 0} → (S → Type 0) → (S → ℕ) → S → S → (X → A) → Option A → Result X StoreFault → Type 0
Answers is_honest fault_count old new shown defined (Ok x) = is_honest new → defined ≡ Some (shown x)
Answers is_honest fault_count old new shown defined (Err NoDatabase) = is_honest new → defined ≡ None
Answers is_honest fault_count old new shown defined (Err Failed) = HasFailed (fault_count old) (fault_count new)
Answers is_honest fault_count old new shown defined (Err Damaged) = ¬ (is_honest new)
Answers is_honest fault_count old new shown defined (Err Memory) = ⊤
Answers is_honest fault_count old new shown defined (Err Exists) = ⊥
Answers is_honest fault_count old new shown defined (Err Full) = ⊥
