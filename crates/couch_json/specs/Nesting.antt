-- How many brackets and braces of a text are open, place by place.
-- RFC 8259, section 9, lets a reader set a limit on depth; sections 2 and 7 say what a bracket and what a string is.
use Rattle.std.specs.Prelude.{ℕ, ◌+◌, ◌-◌, ◌==◌, ◌||◌, List, [], ◌∷◌, Bool, if◌then◌else◌, nat_lt}
use Rattle.std.specs.List.{list_any}
use Rattle.couch_json.specs.declared.nesting.Place.{Place}
use Rattle.couch_json.specs.declared.nesting.Place.TheVariants.{Outside, Inside, Escaped}

-- a quote begins and ends a string, and in one a backslash takes the byte after it along
abbrev pub place_after : Place → ℕ → Place
place_after Outside byte = if byte == 34 then Inside else Outside
place_after Inside byte = if byte == 34 then Outside else (if byte == 92 then Escaped else Inside)
place_after Escaped byte = Inside

-- outside of strings `[` and `{` open, `]` and `}` close, and a closing one with none open counts for nothing
abbrev pub open_after : Place → ℕ → ℕ → ℕ
open_after Outside open_count byte =
    if (byte == 91) || (byte == 123) then open_count + 1 else (if (byte == 93) || (byte == 125) then open_count - 1 else open_count)
open_after Inside open_count byte = open_count
open_after Escaped open_count byte = open_count

-- how many are open after each byte
abbrev pub open_counts : Place → ℕ → List ℕ → List ℕ
open_counts place open_count [] = []
open_counts place open_count (byte ∷ bytes) =
    open_after place open_count byte ∷ open_counts (place_after place byte) (open_after place open_count byte) bytes

-- the most that may ever be open
abbrev pub max_open : ℕ
max_open = 110

-- somewhere more are open
abbrev pub nests_too_deep : List ℕ → Bool
nests_too_deep bytes = list_any (nat_lt max_open) (open_counts Outside 0 bytes)
