-- What a find answers: what is defined, or why it refuses.
-- This server's own: what the store says of the cause of its fault holds of the fault that is passed on.
use Rattle.std.specs.Prelude.{◌≡◌, List, Option, Some, None, Result, Ok, Err}
use Rattle.couch_json.specs.Value.{Value}
use Rattle.store.specs.declared.store.Store.{Ghosts}
use Rattle.read.specs.Answers.{Stops}
use Rattle.read.specs.declared.fault.ReadFault.{ReadFault}

-- What a find answers, by what is defined for the database of a name, if there is one: these documents, as they are shown, or lack of
-- memory or a fault of the store. It has no refusals of its own.
abbrev pub Finds : {S X : Type 0} → Ghosts S → S → S → (X → List Value) → Option (List Value) → Result X ReadFault → Type 0
Finds g old new shown defined (Ok documents) = g.is_honest new → defined ≡ Some (shown documents)
Finds g old new shown defined (Err fault) = Stops g old new (defined ≡ None) fault
