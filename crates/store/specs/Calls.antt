-- The words of `Leaving`, at a bound `S: Store`.
-- This crate's own.
use Rattle.std.specs.Prelude.{Option, Result}
use Rattle.store.specs.Leaving as leaving
use Rattle.store.specs.declared.fault.StoreFault.{StoreFault}
use Rattle.store.specs.declared.store.Store.{Ghosts}

-- what a call leaves of honesty and of faults
abbrev pub GoesOn : {S : Type 0} → Ghosts S → S → S → Type 0
GoesOn g old new = leaving.Progresses g.is_honest g.is_clean g.fault_count old new

abbrev pub OnlyReads : {S : Type 0} → Ghosts S → S → S → Type 0
OnlyReads g old new = leaving.OnlyReads g.contents g.is_honest g.is_clean g.fault_count g.lacks_room g.lacks_number old new

abbrev pub ChangesWhole : {S X F : Type 0} → Ghosts S → S → S → Result X F → Type 0
ChangesWhole g old new result = leaving.ChangesWhole g.contents g.is_honest g.is_clean g.fault_count old new result

abbrev pub Answers : {S X A : Type 0} → Ghosts S → S → S → (X → A) → Option A → Result X StoreFault → Type 0
Answers g old new shown defined result = leaving.Answers g.is_honest g.fault_count old new shown defined result
