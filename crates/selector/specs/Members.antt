-- Values in their order, each once, in place of a list of them.
-- This crate's own: it says what a search among them finds.
use Rattle.std.specs.Prelude.{◌≡◌, List, Bool, map}
use Rattle.std.specs.declared.cmp.Ordering.{Ordering}
use Rattle.couch_json.specs.Collation.{collation}
use Rattle.couch_json.specs.Value.{Value, Items}
use Rattle.couch_json.specs.View.{view, items_view}
use Rattle.couch_json.specs.declared.value.Json.{Json}
use Rattle.selector.specs.Truth.{is_element}

abbrev pub value_order : Json → Json → Ordering
value_order v w = collation (view v) (view w)

-- what is among the values is among the elements, and the other way round
abbrev pub HaveSame : List Json → Items → Type 0
HaveSame values items = (v : Value) → is_element v (items_view values) ≡ is_element v items

-- which of the values are among the items
abbrev pub marks_of : List Json → List Json → List Bool
marks_of values items = map (λ w. is_element (view w) (items_view items)) values
