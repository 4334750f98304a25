-- The canonical text of a value: compact, members in the order in which the object has them, the shortest escapes.
-- RFC 8259, sections 2 to 7, for the grammar; which of its texts is canonical is this project's own choice.
use Rattle.std.specs.Prelude.{ℕ, List, [], ◌∷◌, ◌++◌, true, false, codes}
use Rattle.std.specs.Fmt.{signed_decimal}
use Rattle.std.specs.List.{join_with_byte}
use Rattle.json.specs.Print.{quoted}
use Rattle.couch_json.specs.Value.{Value, null, truth, whole, text, array, object, Items, no_items, item, Members, no_members, member}

-- A text between quotes has the two-character escapes of the quote, the backslash, backspace, form feed, line feed,
-- carriage return and tab; every other byte below 0x20 is `\u00` and two lower-case hexadecimal digits; all else stands
-- as it is. That is `quoted` of the kit's json.
abbrev mutual
  pub canonical : Value → List ℕ
  canonical null = codes "null"
  canonical (truth true) = codes "true"
  canonical (truth false) = codes "false"
  canonical (whole n) = signed_decimal n
  canonical (text s) = quoted s
  canonical (array vs) = codes "[" ++ (join_with_byte 44 (items_texts vs) ++ codes "]")
  canonical (object ms) = codes "{" ++ (join_with_byte 44 (members_texts ms) ++ codes "}")

  -- the text of each element
  pub items_texts : Items → List (List ℕ)
  items_texts no_items = []
  items_texts (item v vs) = canonical v ∷ items_texts vs

  -- the text of each member: its name, a colon, its value
  pub members_texts : Members → List (List ℕ)
  members_texts no_members = []
  members_texts (member name v ms) = (quoted name ++ (codes ":" ++ canonical v)) ∷ members_texts ms
