-- What a reader answers: what is defined, or why it refuses.
-- This server's own: what the store says of the cause of its fault holds of the fault that is passed on.
use Rattle.std.specs.Prelude.{◌≡◌, Option, Some, None, Result, Ok, Err, ⊤}
use Rattle.couch_json.specs.Value.{Value}
use Rattle.store.specs.Causes.{HasFailed}
use Rattle.store.specs.declared.fault.StoreFault.{StoreFault}
use Rattle.store.specs.declared.fault.StoreFault.TheVariants as store
use Rattle.store.specs.declared.store.Store.{Ghosts}
use Rattle.read.specs.declared.fault.ReadFault.{ReadFault}
use Rattle.read.specs.declared.fault.ReadFault.TheVariants.{Missing, Deleted, BadQuery, Store, Memory}

-- the store's fault as it is passed on: want of memory is one cause, wherever it comes from
abbrev pub fault_of_store : StoreFault → ReadFault
fault_of_store store.Memory = Memory
fault_of_store fault = Store fault

-- when the store refuses a reader: there is no such database, and so nothing defined, or a fault that has a cause
abbrev pub Refuses : {S : Type 0} → Ghosts S → S → S → Option (Result Value ReadFault) → StoreFault → Type 0
Refuses g old new defined store.NoDatabase = g.is_honest new → defined ≡ None
Refuses g old new defined store.Failed = HasFailed (g.fault_count old) (g.fault_count new)
Refuses g old new defined store.Damaged = ¬ (g.is_honest new)
Refuses g old new defined store.Memory = ⊥
Refuses g old new defined store.Exists = ⊥
Refuses g old new defined store.Full = ⊥

-- What a reader answers, by what is defined for the database of a name, if there is one: that value, which is held as its text, that
-- refusal, or want of memory or a fault of the store. It never answers that it was asked wrongly.
abbrev pub AnswersValue : {S : Type 0} → Ghosts S → S → S → Option (Result Value ReadFault) → Result Value ReadFault → Type 0
AnswersValue g old new defined (Ok value) = g.is_honest new → defined ≡ Some (Ok value)
AnswersValue g old new defined (Err Missing) = g.is_honest new → defined ≡ Some (Err Missing)
AnswersValue g old new defined (Err Deleted) = g.is_honest new → defined ≡ Some (Err Deleted)
AnswersValue g old new defined (Err BadQuery) = ⊥
AnswersValue g old new defined (Err (Store fault)) = Refuses g old new defined fault
AnswersValue g old new defined (Err Memory) = ⊤

-- when the store stops a reader: there is no such database, as `absent` says of an honest one, or a fault that has a cause
abbrev pub StopsBy : {S : Type 0} → Ghosts S → S → S → Type 0 → StoreFault → Type 0
StopsBy g old new absent store.NoDatabase = g.is_honest new → absent
StopsBy g old new absent store.Failed = HasFailed (g.fault_count old) (g.fault_count new)
StopsBy g old new absent store.Damaged = ¬ (g.is_honest new)
StopsBy g old new absent store.Memory = ⊥
StopsBy g old new absent store.Exists = ⊥
StopsBy g old new absent store.Full = ⊥

-- what has to hold where a part of a reader's work ends so, which refuses nothing of its own
abbrev pub Stops : {S : Type 0} → Ghosts S → S → S → Type 0 → ReadFault → Type 0
Stops g old new absent Missing = ⊥
Stops g old new absent Deleted = ⊥
Stops g old new absent BadQuery = ⊥
Stops g old new absent (Store fault) = StopsBy g old new absent fault
Stops g old new absent Memory = ⊤
