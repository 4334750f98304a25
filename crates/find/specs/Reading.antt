-- What reading a part of a query answers, by what is defined.
-- This crate's own: it ties the faults of the code to the definition of `Queries`.
use Rattle.std.specs.Prelude.{◌≡◌, Option, Some, None, Result, Ok, Err, ⊤}
use Rattle.couch_json.specs.declared.malformed.Malformed.{Malformed}
use Rattle.couch_json.specs.declared.malformed.Malformed.TheVariants.{Shape, Memory}

-- What is defined, as it is shown; a fault of shape comes where nothing is, and lack of memory in place of any answer.
abbrev pub ReadsAsDefined : {X A : Type 0} → (X → A) → Option A → Result X Malformed → Type 0
ReadsAsDefined shown defined (Ok x) = defined ≡ Some (shown x)
ReadsAsDefined shown defined (Err Shape) = defined ≡ None
ReadsAsDefined shown defined (Err Memory) = ⊤
