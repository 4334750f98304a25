-- What a writer took of bytes that were to be written.
-- This project's own: the words on a writer are those of the kit.
use Rattle.std.specs.Prelude.{◌≡◌, ℕ, Bool, true, List, ◌++◌, Option}
use Rattle.std.specs.Io.KnownBytes.{Appends}

-- the first list begins the second
abbrev pub IsPrefix : List ℕ → List ℕ → Type 0
IsPrefix xs ys = (rest : List ℕ) × (xs ++ rest ≡ ys)

-- a writer took these bytes or a first part of them; all of them, where that is told
abbrev pub Takes : Option (List ℕ) → Option (List ℕ) → List ℕ → Bool → Type 0
Takes old new bytes whole = (written : List ℕ) × Appends old new written × IsPrefix written bytes × (whole ≡ true → written ≡ bytes)
