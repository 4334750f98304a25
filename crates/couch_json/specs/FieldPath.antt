-- Field paths: the names in a path's text, and the value inside another that they reach.
-- CouchDB manual, api/database/find, "Subfields", for the dots and the backslash before one; the limit of 256 bytes is ours.
use Rattle.std.specs.Prelude.{◌≡◌, ⊤, ℕ, ◌==◌, ◌&&◌, Bool, true, false, if◌then◌else◌, List, [], ◌∷◌, ◌++◌, length, map, nat_le, nat_lt, Option, Some, option_and_then}
use Rattle.std.specs.List.{join_with_byte}
use Rattle.couch_json.specs.Value.{Value, member_of}

-- `.`
abbrev pub dot : ℕ
dot = 46

-- `\`
abbrev pub backslash : ℕ
backslash = 92

-- a name, and the backslash after it where one is held
abbrev pub with_held : Bool → List ℕ → List ℕ
with_held true name = name ++ backslash ∷ []
with_held false name = name

-- The names in what is left of a text, read from the left, where the first of them has begun. A backslash is held until
-- the byte after it is known: it turns a dot into one of the name, and stands for itself before all else.
abbrev pub names_from : Bool → List ℕ → List ℕ → List (List ℕ)
names_from held name [] = with_held held name ∷ []
names_from held name (byte ∷ bytes) =
    if byte == dot
    then (if held then names_from false (name ++ dot ∷ []) bytes else (name ∷ names_from false [] bytes))
    else (if byte == backslash
    then names_from true (with_held held name) bytes
    else names_from false (with_held held name ++ byte ∷ []) bytes)

-- the names of a path, in order
abbrev pub names_in : List ℕ → List (List ℕ)
names_in path = names_from false [] path

-- a name as it stands in a path: each dot of it behind a backslash
abbrev pub name_text : List ℕ → List ℕ
name_text [] = []
name_text (byte ∷ bytes) = if byte == dot then (backslash ∷ byte ∷ name_text bytes) else (byte ∷ name_text bytes)

-- the names, joined by dots
abbrev pub path_text : List (List ℕ) → List ℕ
path_text names = join_with_byte dot (map name_text names)

-- the last byte is a backslash; of no bytes, as is said
abbrev pub ends_in_backslash : Bool → List ℕ → Bool
ends_in_backslash ends [] = ends
ends_in_backslash ends (byte ∷ bytes) = ends_in_backslash (byte == backslash) bytes

-- at least one name, and none but the last ends in a backslash, which would stand before the dot between two
abbrev pub CanBeJoined : List (List ℕ) → Type 0
CanBeJoined [] = ⊥
CanBeJoined (name ∷ []) = ⊤
CanBeJoined (name ∷ next ∷ names) = (ends_in_backslash false name ≡ false) × CanBeJoined (next ∷ names)

-- no name is empty
abbrev pub are_filled : List (List ℕ) → Bool
are_filled [] = true
are_filled (name ∷ names) = nat_lt 0 (length name) && are_filled names

-- a text of 1 to 256 bytes in which no name is empty
abbrev pub is_field_path : List ℕ → Bool
is_field_path path = nat_le 1 (length path) && nat_le (length path) 256 && are_filled (names_in path)

-- the value that the names lead to, from object to object
abbrev pub value_along : List (List ℕ) → Value → Option Value
value_along [] v = Some v
value_along (name ∷ names) v = option_and_then (value_along names) (member_of v name)

-- what a path reaches in a value, where it reaches anything
abbrev pub value_at : List ℕ → Value → Option Value
value_at path v = value_along (names_in path) v
