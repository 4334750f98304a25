-- A value as the kit's serde_json and json see it, for private clauses and proofs.
-- The kit's own definitions of data, outline and tokens decide.
use Rattle.std.specs.Prelude.{List}
use Rattle.json.specs.Token.{Token}
use Rattle.json.specs.Tree as tree
use Rattle.serde_json.specs.Data as serde
use Rattle.serde_json.specs.Find.{of_integer}
use Rattle.serde_json.specs.Written.{outline, items_outline, members_outline}
use Rattle.couch_json.specs.Value.{Value, null, truth, whole, text, array, object, Items, no_items, item, Members, no_members, member}

abbrev mutual
  pub data_of : Value → serde.Data
  data_of null = serde.null
  data_of (truth b) = serde.boolean b
  data_of (whole n) = serde.number (of_integer n)
  data_of (text s) = serde.string s
  data_of (array vs) = serde.array (items_data vs)
  data_of (object ms) = serde.object (members_data ms)

  pub items_data : Items → serde.Items
  items_data no_items = serde.no_items
  items_data (item v vs) = serde.item (data_of v) (items_data vs)

  pub members_data : Members → serde.Members
  members_data no_members = serde.no_members
  members_data (member name v ms) = serde.member name (data_of v) (members_data ms)

-- the tokens that a value is written as
abbrev pub value_tokens : Value → List Token
value_tokens v = tree.json_tokens (outline (data_of v))

-- those of its elements, with the closing bracket
abbrev pub elements_tokens : Items → List Token
elements_tokens vs = tree.items_tokens (items_outline (items_data vs))

-- those of its members, with the closing brace
abbrev pub object_tokens : Members → List Token
object_tokens ms = tree.members_tokens (members_outline (members_data ms))
