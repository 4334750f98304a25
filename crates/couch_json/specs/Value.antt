-- What a JSON value is: null, a truth value, a whole number, a text, an array, or an object, whose members go by name.
-- RFC 8259, sections 3 to 7, and section 4 for objects whose names are unique; numbers and order are narrowed in `Lawful`.
use Rattle.std.specs.Prelude.{ℕ, suc, max, ℤ, List, Bool, Option, Some, None}
use Rattle.std.specs.Ordering.{nat_cmp, match_ordering}
use Rattle.std.specs.Cmp.Lexicographic.{slice_cmp}

-- A text or a name is its bytes in UTF-8.
mutual
  pub data Value : Type 0 where
    null : Value
    truth : Bool → Value
    whole : ℤ → Value
    text : List ℕ → Value
    array : Items → Value
    object : Members → Value

  -- the elements of an array, in order
  pub data Items : Type 0 where
    no_items : Items
    item : Value → Items → Items

  -- the members of an object, each a name and its value
  pub data Members : Type 0 where
    no_members : Members
    member : List ℕ → Value → Members → Members

-- the members with this value at the name, in byte order of names
abbrev pub put : List ℕ → Value → Members → Members
put name v no_members = member name v no_members
put name v (member other w ms) =
    match_ordering (slice_cmp nat_cmp name other) (member name v (member other w ms)) (member other v ms) (member other w (put name v ms))

-- the value at the name, where there is one
abbrev pub member_at : List ℕ → Members → Option Value
member_at name no_members = None
member_at name (member other w ms) = match_ordering (slice_cmp nat_cmp name other) (member_at name ms) (Some w) (member_at name ms)

-- how deep arrays and objects nest: a scalar 0, an empty array 1
abbrev mutual
  pub depth : Value → ℕ
  depth null = 0
  depth (truth b) = 0
  depth (whole n) = 0
  depth (text s) = 0
  depth (array vs) = suc (items_depth vs)
  depth (object ms) = suc (members_depth ms)

  -- the depth of the deepest element, and 0 of none
  pub items_depth : Items → ℕ
  items_depth no_items = 0
  items_depth (item v vs) = max (depth v) (items_depth vs)

  -- the depth of the deepest value of a member, and 0 of none
  pub members_depth : Members → ℕ
  members_depth no_members = 0
  members_depth (member name v ms) = max (depth v) (members_depth ms)

-- the members of the first, put one after another into the second
abbrev pub put_all : Members → Members → Members
put_all no_members found = found
put_all (member name v ms) found = put_all ms (put name v found)

-- the value's member of this name, where it is an object that has one
abbrev pub member_of : Value → List ℕ → Option Value
member_of (object ms) name = member_at name ms
member_of v name = None
