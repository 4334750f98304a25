-- The value that a `Json` is.
-- This crate's own: it ties the enum of the code to the value of `Value`.
use Rattle.std.specs.Prelude.{List, [], ◌∷◌, map, String, string_bytes}
use Rattle.std.specs.declared.alloc.Global.{Global}
use Rattle.couch_json.specs.Value.{Value, null, truth, whole, text, array, object, Items, no_items, item, Members, no_members, member}
use Rattle.couch_json.specs.declared.value.Json.{Json, fold-Json}
use Rattle.couch_json.specs.declared.value.Json.TheOpen.{Json-F}

-- values as the items of an array
abbrev pub items_of : List Value → Items
items_of [] = no_items
items_of (v ∷ vs) = item v (items_of vs)

-- names with values as the members of an object
abbrev pub members_of : List (String Global × Value) → Members
members_of [] = no_members
members_of (m ∷ ms) = member (string_bytes m.0) m.1 (members_of ms)

-- one level, with each value inside already seen
abbrev pub view_step : Json-F Value → Value
view_step Json-F.Null = null
view_step (Json-F.Truth b) = truth b
view_step (Json-F.Whole n) = whole n
view_step (Json-F.Text s) = text (string_bytes s)
view_step (Json-F.Array v) = array (items_of v.items)
view_step (Json-F.Object m) = object (members_of m.entries)

-- a value of the code as the definition's
abbrev pub view : Json → Value
view = fold-Json Value view_step

abbrev pub items_view : List Json → Items
items_view vs = items_of (map view vs)

abbrev pub members_view : List (String Global × Json) → Members
members_view ms = members_of (map (λ m. (m.0, view m.1)) ms)
