-- The shapes in which replies and checkpoints say what they say.
-- RFC 8259 for the values; the greatest count, 2^63 - 1, is this server's own.
use Rattle.std.specs.Prelude.{ℕ, ℤ, pos, negsuc, nat_le, if◌then◌else◌, List, [], ◌∷◌, Option, Some, None, option_map, option_and_then}
use Rattle.couch_json.specs.Parts.{items_in, text_in, whole_in}
use Rattle.couch_json.specs.Range.{greatest_count}
use Rattle.couch_json.specs.Value.{Value, Items, no_items, item, member_of}

-- the number, where it is not less than 0 and not too great
abbrev pub count_of : ℤ → Option ℕ
count_of (pos n) = if nat_le n greatest_count then Some n else None
count_of (negsuc n) = None

-- a value that is a whole number from 0 to 2^63 - 1
abbrev pub count_in_value : Value → Option ℕ
count_in_value v = option_and_then (λ n. count_of n) (whole_in v)

-- the text of a member
abbrev pub text_at : List ℕ → Value → Option (List ℕ)
text_at name v = option_and_then (λ w. text_in w) (member_of v name)

-- the count of a member
abbrev pub count_at : List ℕ → Value → Option ℕ
count_at name v = option_and_then (λ w. count_in_value w) (member_of v name)

-- something, before others
abbrev pub before : {A : Type 0} → Option A → Option (List A) → Option (List A)
before first others = option_and_then (λ a. option_map (λ as_. a ∷ as_) others) first

-- what each element says, where each is of a shape
abbrev pub each_in : {A : Type 0} → (Value → Option A) → Items → Option (List A)
each_in read no_items = Some []
each_in read (item v vs) = before (read v) (each_in read vs)

-- the same of the list that a value is
abbrev pub list_in : {A : Type 0} → (Value → Option A) → Value → Option (List A)
list_in read v = option_and_then (λ vs. each_in read vs) (items_in v)

-- and of the list that a member is
abbrev pub list_at : {A : Type 0} → List ℕ → (Value → Option A) → Value → Option (List A)
list_at name read v = option_and_then (λ w. list_in read w) (member_of v name)

-- the texts of a list
abbrev pub texts_at : List ℕ → Value → Option (List (List ℕ))
texts_at name v = list_at name text_in v
