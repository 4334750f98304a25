-- What a text says: the value whose canonical text it is; the elements of an array, or the members of an object, that is not closed yet.
-- This crate's own: it ties texts of the code to `Canonical`, by the reading of `Reading` with no limit on depth.
use Rattle.std.specs.Prelude.{◌≡◌, ℕ, List, [], ◌∷◌, ◌++◌, Bool, true, false, option_and_then, length, codes, ⊤}
use Rattle.std.specs.declared.cmp.Ordering.TheVariants.{Less}
use Rattle.std.specs.Ordering.{nat_cmp}
use Rattle.std.specs.Cmp.Lexicographic.{slice_cmp}
use Rattle.std.specs.List.{join_with_byte}
use Rattle.json.specs.Lex.{tokens}
use Rattle.couch_json.specs.Canonical.{canonical, items_texts, members_texts}
use Rattle.couch_json.specs.Lawful.{IsLawful, AreLawfulItems}
use Rattle.couch_json.specs.Parts.{value_or_null}
use Rattle.couch_json.specs.Reading.{data_read_within, value_of}
use Rattle.couch_json.specs.Value.{Value, array, object, Items, no_items, item, Members, no_members, member}
use Rattle.couch_json.specs.View.{items_of}

-- the value that the bytes are the text of, as deep as there are tokens
unfoldable pub value_said : List ℕ → Value
value_said bytes = value_or_null (option_and_then value_of (data_read_within (length (tokens bytes)) bytes))

-- the bytes are the canonical text of a lawful value
abbrev pub IsText : List ℕ → Type 0
IsText bytes = (bytes ≡ canonical (value_said bytes)) × IsLawful (value_said bytes)

-- a text behind others, with a comma before it unless it is the first
abbrev pub behind_comma : Bool → List ℕ → List ℕ
behind_comma true t = t
behind_comma false t = codes "," ++ t

-- ---- arrays

abbrev pub list_of_items : Items → List Value
list_of_items no_items = []
list_of_items (item v vs) = v ∷ list_of_items vs

-- the elements of a value, none where it is no array
abbrev pub elements_of : Value → List Value
elements_of (array vs) = list_of_items vs
elements_of v = []

-- the elements of an array whose text goes so far
abbrev pub elements_said : List ℕ → List Value
elements_said bytes = elements_of (value_said (bytes ++ codes "]"))

abbrev pub has_no_values : List Value → Bool
has_no_values [] = true
has_no_values (v ∷ vs) = false

-- the bytes are the text of an array of these elements, but for the bracket that closes it
abbrev pub BeginsArray : List ℕ → Bool → List Value → Type 0
BeginsArray bytes empty vs =
    (bytes ≡ codes "[" ++ join_with_byte 44 (items_texts (items_of vs))) × (empty ≡ has_no_values vs) × AreLawfulItems (items_of vs)

-- ---- objects

-- the members of a value, none where it is no object
abbrev pub members_of_value : Value → Members
members_of_value (object ms) = ms
members_of_value v = no_members

-- the members of an object whose text goes so far
abbrev pub members_said : List ℕ → Members
members_said bytes = members_of_value (value_said (bytes ++ codes "}"))

abbrev pub has_no_members : Members → Bool
has_no_members no_members = true
has_no_members (member name v ms) = false

-- the members with one more at the end
abbrev pub with_last : Members → List ℕ → Value → Members
with_last no_members name v = member name v no_members
with_last (member other w ms) name v = member other w (with_last ms name v)

-- the name stands behind each name of the members
abbrev pub IsBehind : List ℕ → Members → Type 0
IsBehind name no_members = ⊤
IsBehind name (member other v ms) = (slice_cmp nat_cmp other name ≡ Less) × IsBehind name ms

-- the bytes are the text of an object of these members, but for the brace that closes it
abbrev pub BeginsObject : List ℕ → Bool → Members → Type 0
BeginsObject bytes empty ms =
    (bytes ≡ codes "{" ++ join_with_byte 44 (members_texts ms)) × (empty ≡ has_no_members ms) × IsLawful (object ms)
