-- The parts of a value: what it is where it is of one kind, and nothing where it is of another.
-- RFC 8259, section 3: each value is of one of these kinds; section 4: the members of an object go by name.
use Rattle.std.specs.Prelude.{ℕ, ℤ, Bool, true, false, is_some, ◌&&◌, List, Option, Some, None, bytes_eq}
use Rattle.std.specs.List.{list_any}
use Rattle.couch_json.specs.Value.{Value, null, truth, whole, text, array, object, Items, no_items, Members, no_members, member}

-- `true` or `false`
abbrev pub truth_in : Value → Option Bool
truth_in (truth b) = Some b
truth_in v = None

-- the number
abbrev pub whole_in : Value → Option ℤ
whole_in (whole n) = Some n
whole_in v = None

-- the bytes of the text
abbrev pub text_in : Value → Option (List ℕ)
text_in (text s) = Some s
text_in v = None

-- the elements of the array
abbrev pub items_in : Value → Option Items
items_in (array vs) = Some vs
items_in v = None

-- the members of the object
abbrev pub members_in : Value → Option Members
members_in (object ms) = Some ms
members_in v = None

-- the value is true or false
abbrev pub is_truth : Value → Bool
is_truth v = is_some (truth_in v)

-- the value is a number
abbrev pub is_whole : Value → Bool
is_whole v = is_some (whole_in v)

-- it is a text
abbrev pub is_text : Value → Bool
is_text v = is_some (text_in v)

-- the value is an array
abbrev pub is_array : Value → Bool
is_array v = is_some (items_in v)

-- it is an object
abbrev pub is_object : Value → Bool
is_object v = is_some (members_in v)

-- a value, or null where there is none
abbrev pub value_or_null : Option Value → Value
value_or_null None = null
value_or_null (Some v) = v

-- there is one, and it passes the test
abbrev pub is_there_and : {A : Type 0} → (A → Bool) → Option A → Bool
is_there_and test None = false
is_there_and test (Some a) = test a

-- these elements, or none
abbrev pub items_or_none : Option Items → Items
items_or_none None = no_items
items_or_none (Some vs) = vs

-- each member has one of these names
abbrev pub are_named : List (List ℕ) → Members → Bool
are_named names no_members = true
are_named names (member name v ms) = list_any (λ known. bytes_eq known name) names && are_named names ms

-- an object that has no members but of these names; it need not have each
abbrev pub has_only : List (List ℕ) → Value → Bool
has_only names v = is_there_and (are_named names) (members_in v)
