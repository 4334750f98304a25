-- What was read of tokens: the data of serde_json, and their value where each number is whole and in range.
-- This crate's own: it ties the steps of `read` to the grammar of the kit's json and to what serde_json reads.
use Rattle.std.specs.Prelude.{◌≡◌, ℕ, List, [], ◌∷◌, length, Option, Some, None, option_map, String, string_bytes}
use Rattle.std.specs.declared.alloc.Global.{Global}
use Rattle.json.specs.Token.{Token}
use Rattle.json.specs.Json as json
use Rattle.serde_json.specs.Data as serde
use Rattle.serde_json.specs.Read.{of_json, of_items, of_members, converted}
use Rattle.couch_json.specs.Reading.{value_of, items_of_data, members_of_data}
use Rattle.couch_json.specs.Value.{Value, Items, no_items, item, Members, no_members, put}
use Rattle.couch_json.specs.View.{view}
use Rattle.couch_json.specs.declared.value.Json.{Json}

-- at the front of the first tokens stands data with this value or with none, and the last are left
pub record IsRead (depth : ℕ) (first : List Token) (found : Option Json) (left : List Token) : Type 0 where
  pub given : serde.Data
  pub read : converted of_json (json.value depth first) ≡ Some (given, left)
  pub valued : value_of given ≡ option_map view found

-- the same of the elements of an array
pub record AreItemsRead (depth : ℕ) (first : List Token) (found : Option Items) (left : List Token) : Type 0 where
  pub given : serde.Items
  pub read : converted of_items (json.items (json.value depth) (length first) first) ≡ Some (given, left)
  pub valued : items_of_data given ≡ found

-- the same of the members of an object
pub record AreMembersRead (depth : ℕ) (first : List Token) (found : Option Members) (left : List Token) : Type 0 where
  pub given : serde.Members
  pub read : converted (λ ms. of_members ms serde.no_members) (json.members (json.value depth) (length first) first) ≡ Some (given, left)
  pub valued : members_of_data given no_members ≡ found

-- the element behind the others
abbrev pub item_behind : Items → Value → Items
item_behind no_items v = item v no_items
item_behind (item w vs) v = item w (item_behind vs v)

-- the element behind the others, where all have values
abbrev pub with_item : Option Items → Option Value → Option Items
with_item None v = None
with_item (Some vs) None = None
with_item (Some vs) (Some v) = Some (item_behind vs v)

-- the members, put one after another into those found before, where all have values
abbrev pub put_whole : List (String Global × Option Json) → Members → Option Members
put_whole [] found = Some found
put_whole ((name, None) ∷ es) found = None
put_whole ((name, Some v) ∷ es) found = put_whole es (put (string_bytes name) (view v) found)
