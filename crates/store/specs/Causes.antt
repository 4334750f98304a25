-- When a store may answer that it failed, that it is damaged or that it is full.
-- This server's own: a reply of 500 stands for a fault of the store that is counted or for numbers that ran out, and for nothing else, as long as what the store stands on is honest.
use Rattle.std.specs.Prelude.{◌≡◌, ◌⊎◌, ℕ, ◌<◌, ◌^◌, ◌-◌, ⊤}
use Rattle.store.specs.declared.fault.StoreFault.{StoreFault}
use Rattle.store.specs.declared.fault.StoreFault.TheVariants.{Memory, Failed, NoDatabase, Exists, Damaged, Full}

-- the count of faults rose in the call, or had reached its greatest value
abbrev pub HasFailed : ℕ → ℕ → Type 0
HasFailed old new = (old < new) ⊎ (new ≡ 2 ^ 64 - 1)

-- What has to hold where a call answers this fault, by the count of faults before and after it: a failure was counted; what is
-- damaged is not honest; numbers ran out, as `full` says, ⊥ where the call never answers so. Of the other faults clauses of their
-- own speak.
abbrev pub IsCaused : ℕ → ℕ → Type 0 → Type 0 → StoreFault → Type 0
IsCaused old new honest full Failed = HasFailed old new
IsCaused old new honest full Damaged = ¬ honest
IsCaused old new honest full Full = full
IsCaused old new honest full Memory = ⊤
IsCaused old new honest full NoDatabase = ⊤
IsCaused old new honest full Exists = ⊤

-- a commit to a database that is full answers so, but where memory was short or a failure was counted
abbrev pub SaysFull : ℕ → ℕ → StoreFault → Type 0
SaysFull old new Full = ⊤
SaysFull old new Memory = ⊤
SaysFull old new Failed = HasFailed old new
SaysFull old new Damaged = ⊥
SaysFull old new NoDatabase = ⊥
SaysFull old new Exists = ⊥
