-- What a function that reads a request answers, by what the definition says: for private clauses.
-- This crate's own: it ties answers of the code to the definitions.
use Rattle.std.specs.Prelude.{◌≡◌, Result, Ok, Err, ⊤}
use Rattle.api.specs.declared.refusal.Refusal.{Refusal}
use Rattle.api.specs.declared.fault.RequestFault.{RequestFault}
use Rattle.api.specs.declared.fault.RequestFault.TheVariants.{Refused, Memory}

-- what is defined comes, as shown, or its refusal; or memory ran out
abbrev pub Says : {A B : Type 0} → (A → B) → Result A RequestFault → Result B Refusal → Type 0
Says shown (Ok a) defined = defined ≡ Ok (shown a)
Says shown (Err (Refused refusal)) defined = defined ≡ Err refusal
Says shown (Err Memory) defined = ⊤
