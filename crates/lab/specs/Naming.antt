-- What a script calls by names.
-- This project's own.
use Rattle.std.specs.Prelude.{ℕ, ◌+◌, List, [], ◌∷◌, bytes_eq, Option, Some, None, if◌then◌else◌}
use Rattle.lab.specs.declared.named.Named.{Named}

-- a value and its name
pub record NamedValue (A : Type 0) : Type 0 where
  pub name : List ℕ
  pub value : A

-- the value of this name, the first if there were several
abbrev pub value_named : {A : Type 0} → List ℕ → List (NamedValue A) → Option A
value_named name [] = None
value_named name (e ∷ es) = if bytes_eq name e.name then Some e.value else value_named name es

-- the list where the name has another value
abbrev pub with_named : {A : Type 0} → List ℕ → A → List (NamedValue A) → List (NamedValue A)
with_named name value [] = []
with_named name value (e ∷ es) = if bytes_eq name e.name then record e { value = value } ∷ es else e ∷ with_named name value es

-- the names, with numbers from this one on
abbrev pub numbers_from : {A : Type 0} → ℕ → List (NamedValue A) → List (NamedValue ℕ)
numbers_from n [] = []
numbers_from n (e ∷ es) = record { name = e.name; value = n } ∷ numbers_from (n + 1) es

-- the place of the name, counted on from n
abbrev pub place_named : {A : Type 0} → ℕ → List ℕ → List (NamedValue A) → Option ℕ
place_named n name [] = None
place_named n name (e ∷ es) = if bytes_eq name e.name then Some n else place_named (n + 1) name es

-- an entry of the program
abbrev pub named_of : {T : Type 0} → Named T → NamedValue T
named_of e = record { name = e.name.items; value = e.value }
