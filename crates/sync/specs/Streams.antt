-- What came of reads and writes of a stream, as its log has it.
-- This project's own: the words on the bytes of readers and writers are those of the kit.
use Rattle.std.specs.Prelude.{◌≡◌, ◌⊎◌, ◌≤◌, ◌<◌, ◌^◌, ◌-◌, ⊤, ℕ, List, [], ◌∷◌, ◌++◌, length, map, take, Option}
use Rattle.std.specs.Io.KnownBytes.{Appends, Consumes, IsAtEnd, Keeps}
use Rattle.sync.specs.declared.outcome.Outcome.{Outcome}
use Rattle.sync.specs.declared.outcome.Outcome.TheVariants.{Bytes, Interrupted, Failed}

-- what came of each, in order
abbrev pub outcomes_of : List (Outcome × Unit {0}) → List Outcome
outcomes_of entries = map (λ e. e.0) entries

-- a read took so many known bytes, which are the first of the room; none only at the end of the input, or with no room
abbrev pub IsReadOf : Option (List ℕ) → Option (List ℕ) → Outcome → List ℕ → Type 0
IsReadOf old new (Bytes count) room = (count ≤ length room) × Consumes old new (take count room) × (count ≡ 0 → 0 < length room → IsAtEnd new)
IsReadOf old new Interrupted room = Keeps old new
IsReadOf old new Failed room = Keeps old new

-- a write appended so many of the bytes, the first
abbrev pub IsWrittenOf : Option (List ℕ) → Option (List ℕ) → Outcome → List ℕ → Type 0
IsWrittenOf old new (Bytes count) bytes = (count ≤ length bytes) × Appends old new (take count bytes)
IsWrittenOf old new Interrupted bytes = Keeps old new
IsWrittenOf old new Failed bytes = Keeps old new

-- it failed, or no byte was given or taken: of a read, the end of the input
abbrev pub IsFinal : Outcome → Type 0
IsFinal (Bytes count) = count ≡ 0
IsFinal Interrupted = ⊥
IsFinal Failed = ⊤

-- the last of these was final
abbrev pub EndsFinally : List Outcome → Type 0
EndsFinally outcomes = (earlier : List Outcome) × (last : Outcome) × (outcomes ≡ earlier ++ last ∷ []) × IsFinal last

-- how many writes there are at most
abbrev pub most_writes : ℕ
most_writes = 2 ^ 64 - 1

-- writes went on no more: the last failed or took no byte, or there were too many
abbrev pub IsCutOff : List Outcome → Type 0
IsCutOff writes = EndsFinally writes ⊎ (length writes ≡ most_writes)
