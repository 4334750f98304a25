-- Why the work on a request may end because the store failed.
-- This server's own: a reply of 500 stands for a fault of the store that is counted, or for want of numbers for the change that the answer makes, and for nothing else.
use Rattle.std.specs.Prelude.{◌≢◌, ◌⊎◌, ⊤}
use Rattle.store.specs.Causes.{HasFailed}
use Rattle.store.specs.declared.fault.StoreFault.{StoreFault}
use Rattle.store.specs.declared.fault.StoreFault.TheVariants as store
use Rattle.store.specs.declared.store.Store.{Ghosts}
use Rattle.api.specs.declared.fault.RequestFault.{RequestFault}
use Rattle.api.specs.declared.fault.RequestFault.TheVariants as request
use Rattle.read.specs.declared.fault.ReadFault.{ReadFault}
use Rattle.read.specs.declared.fault.ReadFault.TheVariants as read
use Rattle.write.specs.declared.fault.WriteFault.{WriteFault}
use Rattle.write.specs.declared.fault.WriteFault.TheVariants as write
use Rattle.node.specs.Answer.{Change, creation, inside}
use Rattle.node.specs.Work.{appended}
use Rattle.api.specs.declared.refusal.Refusal.TheVariants.{Deleted, Exists, Missing, NoDatabase, Query}
use Rattle.node.specs.declared.early_end.EarlyEnd.{EarlyEnd}
use Rattle.node.specs.declared.early_end.EarlyEnd.TheVariants.{Refused, Failed, NoRoom}

-- the store has no number left for this change: for a new database, or for writes that are appended
abbrev pub LacksNumbers : {S : Type 0} → Ghosts S → S → Change → Type 0
LacksNumbers g s (creation name) = g.lacks_number s
LacksNumbers g s (inside name (appended ws)) = g.lacks_room s name ws
LacksNumbers g s change = ⊥

-- a fault was counted, or numbers lacked for this change
abbrev pub HasCause : {S : Type 0} → Ghosts S → S → S → Change → Type 0
HasCause g old new change = HasFailed (g.fault_count old) (g.fault_count new) ⊎ LacksNumbers g old change

-- Why a reply of 500 comes, over whatever store: a fault was counted; or else the store isn't honest, or had no number left for this
-- change.
abbrev pub IsFailure : {S : Type 0} → Ghosts S → S → S → Change → Type 0
IsFailure g old new change = HasFailed (g.fault_count old) (g.fault_count new) ⊎ (g.is_honest new → LacksNumbers g old change)

-- what has to hold where the work on a request ends so before anything is changed
abbrev pub Ends : {S : Type 0} → Ghosts S → S → S → EarlyEnd → Type 0
Ends g old new (Failed fault) = g.is_honest new → HasFailed (g.fault_count old) (g.fault_count new)
Ends g old new (Refused refusal) = ⊤
Ends g old new NoRoom = ⊤

-- what has to hold where it ends so though this change was to be made
abbrev pub EndsBefore : {S : Type 0} → Ghosts S → S → S → Change → EarlyEnd → Type 0
EndsBefore g old new change (Failed fault) = g.is_honest new → HasCause g old new change
EndsBefore g old new change (Refused refusal) = ⊤
EndsBefore g old new change NoRoom = ⊤

-- how a request ends that is not read to its end
abbrev pub stop_of_request : RequestFault → EarlyEnd
stop_of_request (request.Refused refusal) = Refused refusal
stop_of_request request.Memory = NoRoom

-- how a request ends that the store refuses
abbrev pub stop_of : StoreFault → EarlyEnd
stop_of store.Memory = NoRoom
stop_of store.NoDatabase = Refused NoDatabase
stop_of store.Exists = Refused Exists
stop_of fault = Failed fault

-- how a request ends that shows nothing
abbrev pub stop_of_reader : ReadFault → EarlyEnd
stop_of_reader read.Missing = Refused Missing
stop_of_reader read.Deleted = Refused Deleted
stop_of_reader read.BadQuery = Refused Query
stop_of_reader (read.Store fault) = stop_of fault
stop_of_reader read.Memory = NoRoom

-- how a request ends whose change was not made
abbrev pub stop_of_change : WriteFault → EarlyEnd
stop_of_change write.Memory = NoRoom
stop_of_change (write.Store fault) = Failed fault
stop_of_change fault = Failed store.Failed

-- it doesn't end for the store's sake
abbrev pub IsOfNoStore : EarlyEnd → Type 0
IsOfNoStore stop = (fault : StoreFault) → stop ≢ Failed fault
