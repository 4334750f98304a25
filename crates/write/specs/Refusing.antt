-- When a plan, or the change that it makes, is refused for the sake of the store.
-- This server's own: what the store says of the cause of its fault holds of the fault that is passed on.
use Rattle.store.specs.Causes.{HasFailed}
use Rattle.store.specs.declared.fault.StoreFault.{StoreFault}
use Rattle.store.specs.declared.fault.StoreFault.TheVariants as store
use Rattle.store.specs.declared.store.Store.{Ghosts}
use Rattle.std.specs.Prelude.{◌≢◌, Result, Ok, Err, ⊤}
use Rattle.write.specs.declared.fault.WriteFault.{WriteFault}
use Rattle.write.specs.declared.fault.WriteFault.TheVariants.{BadDocument, Denied, BadHistory, Conflict, Generation, Store, Memory}

-- the store's fault as it is passed on: want of memory is one cause, wherever it comes from
abbrev pub fault_of_store : StoreFault → WriteFault
fault_of_store store.Memory = Memory
fault_of_store fault = Store fault

-- the store refuses: there is no such database, as `absent` says of an honest one, a fault has its cause, or numbers ran out, as `full`
-- says; it never refuses because there is such a database
abbrev pub IsRefused : {S : Type 0} → Ghosts S → S → S → Type 0 → Type 0 → StoreFault → Type 0
IsRefused g old new absent full store.NoDatabase = g.is_honest new → absent
IsRefused g old new absent full store.Failed = HasFailed (g.fault_count old) (g.fault_count new)
IsRefused g old new absent full store.Damaged = ¬ (g.is_honest new)
IsRefused g old new absent full store.Full = full
IsRefused g old new absent full store.Memory = ⊥
IsRefused g old new absent full store.Exists = ⊥

-- What has to hold where this fault is answered: of a fault of the store what makes it refuse. Of the other faults clauses of their own
-- speak.
abbrev pub Refuses : {S : Type 0} → Ghosts S → S → S → Type 0 → Type 0 → WriteFault → Type 0
Refuses g old new absent full (Store fault) = IsRefused g old new absent full fault
Refuses g old new absent full BadDocument = ⊤
Refuses g old new absent full (Denied rule) = ⊤
Refuses g old new absent full BadHistory = ⊤
Refuses g old new absent full Conflict = ⊤
Refuses g old new absent full Generation = ⊤
Refuses g old new absent full Memory = ⊤

-- the fault is the store's or want of memory, and no other
abbrev pub IsOfStoreOrMemory : WriteFault → Type 0
IsOfStoreOrMemory fault = fault ≢ Memory → ((cause : StoreFault) → fault ≢ Store cause) → ⊥

-- the fault is one of the document, and not of the store or of memory
abbrev pub IsOwn : WriteFault → Type 0
IsOwn BadDocument = ⊤
IsOwn (Denied rule) = ⊤
IsOwn BadHistory = ⊤
IsOwn Conflict = ⊤
IsOwn Generation = ⊤
IsOwn (Store fault) = ⊥
IsOwn Memory = ⊥

-- the answer is about the document: it is planned, or refused for a cause of its own
abbrev pub IsDecided : {A : Type 0} → Result A WriteFault → Type 0
IsDecided (Ok planned) = ⊤
IsDecided (Err fault) = IsOwn fault
