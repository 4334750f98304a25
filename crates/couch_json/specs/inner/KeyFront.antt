-- What reading the front of some bytes as a key may answer, for private clauses: the value of the key that they begin with, and the
-- bytes behind it, where there is such a value; anything where there is none.
-- This crate's own.
use Rattle.std.specs.Prelude.{◌≡◌, ◌≤◌, ℕ, ℤ, List, ◌++◌, Option, Some, IsUtf8}
use Rattle.couch_json.specs.Key.{key, number_key, text_key, items_key, members_key}
use Rattle.couch_json.specs.Lawful.{IsLawful, AreLawfulItems, HasAscendingNames, AreLawfulMembers}
use Rattle.couch_json.specs.Range.{IsInRange}
use Rattle.couch_json.specs.Value.{Value, Items, Members, depth, items_depth, members_depth}

-- values nest at most as deep as the limit
abbrev pub FindsValue : ℕ → List ℕ → Option (Value × List ℕ) → Type 0
FindsValue limit bytes found =
    (v : Value) (rest : List ℕ) → IsLawful v → depth v ≤ limit → key v ++ rest ≡ bytes → found ≡ Some (v, rest)

abbrev pub FindsItems : ℕ → List ℕ → Option (Items × List ℕ) → Type 0
FindsItems limit bytes found =
    (vs : Items) (rest : List ℕ) → AreLawfulItems vs → items_depth vs ≤ limit → items_key vs ++ rest ≡ bytes → found ≡ Some (vs, rest)

abbrev pub FindsMembers : ℕ → List ℕ → Option (Members × List ℕ) → Type 0
FindsMembers limit bytes found =
    (ms : Members) (rest : List ℕ) → HasAscendingNames ms → AreLawfulMembers ms → members_depth ms ≤ limit → members_key ms ++ rest ≡ bytes
    → found ≡ Some (ms, rest)

abbrev pub FindsNumber : List ℕ → Option (ℤ × List ℕ) → Type 0
FindsNumber bytes found = (n : ℤ) (rest : List ℕ) → IsInRange n → number_key n ++ rest ≡ bytes → found ≡ Some (n, rest)

abbrev pub FindsText : List ℕ → Option (List ℕ × List ℕ) → Type 0
FindsText bytes found = (s rest : List ℕ) → IsUtf8 s → text_key s ++ rest ≡ bytes → found ≡ Some (s, rest)
