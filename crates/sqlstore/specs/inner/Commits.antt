-- What a store tells of writes that were not done, and of an index that was not read.
-- This server's own: why they were not done is said by `transactions`.
use Rattle.std.specs.Prelude.{◌≡◌, ℕ, ⊤}
use Rattle.store.specs.Causes.{HasFailed}
use Rattle.store.specs.declared.fault.StoreFault.{StoreFault}
use Rattle.store.specs.declared.fault.StoreFault.TheVariants.{Memory, Failed, NoDatabase, Exists, Damaged, Full}
use Rattle.transactions.specs.declared.commit_fault.CommitFault.{CommitFault}
use Rattle.transactions.specs.declared.commit_fault.CommitFault.TheVariants as write
use Rattle.index.specs.declared.fault.IndexFault.{IndexFault}
use Rattle.index.specs.declared.fault.IndexFault.TheVariants as index
use Rattle.sqlstore.specs.inner.Causes.{IsJudged}

-- the fault that a store tells of it
abbrev pub IsToldAs : ℕ → ℕ → CommitFault → StoreFault → Type 0
IsToldAs old new (write.Sqlite e) told = IsJudged old new told
IsToldAs old new (write.Store fault) told = told ≡ fault

-- the fault that a store tells of one of indexes
abbrev pub IsIndexToldAs : ℕ → ℕ → IndexFault → StoreFault → Type 0
IsIndexToldAs old new (index.Sqlite e) told = IsJudged old new told
IsIndexToldAs old new index.Memory told = told ≡ Memory
IsIndexToldAs old new index.Damaged told = told ≡ Damaged

-- why writes were not committed: memory ran out, a failure was counted, or what is stored is not laid out
abbrev pub IsUncommitted : ℕ → ℕ → Type 0 → StoreFault → Type 0
IsUncommitted old new honest Memory = ⊤
IsUncommitted old new honest Failed = HasFailed old new
IsUncommitted old new honest Damaged = ¬ honest
IsUncommitted old new honest NoDatabase = ⊥
IsUncommitted old new honest Exists = ⊥
IsUncommitted old new honest Full = ⊥
