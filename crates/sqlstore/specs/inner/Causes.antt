-- What a store makes of an error of SQLite.
-- This server's own: want of memory is told as such, and every other error is counted.
use Rattle.std.specs.Prelude.{ℕ, ⊤}
use Rattle.store.specs.Causes.{HasFailed}
use Rattle.store.specs.declared.fault.StoreFault.{StoreFault}
use Rattle.store.specs.declared.fault.StoreFault.TheVariants.{Memory, Failed, NoDatabase, Exists, Damaged, Full}

-- memory ran out, or a failure was counted
abbrev pub IsJudged : ℕ → ℕ → StoreFault → Type 0
IsJudged old new Memory = ⊤
IsJudged old new Failed = HasFailed old new
IsJudged old new NoDatabase = ⊥
IsJudged old new Exists = ⊥
IsJudged old new Damaged = ⊥
IsJudged old new Full = ⊥
