-- The key of a value: bytes whose order is the order of the values.
-- The layout is this store's own, the second. A key's first byte tells the kind. A number is nine bytes. A text ends in two bytes 0,
-- and each byte 0 of it has 255 behind it; an array and an object end in a byte 0.
use Rattle.std.specs.Prelude.{ℕ, ℤ, pos, negsuc, ◌+◌, ◌-◌, ◌^◌, ◌==◌, List, [], ◌∷◌, ◌++◌, true, false, if◌then◌else◌}
use Rattle.std.specs.Int.{bytes_high_first}
use Rattle.couch_json.specs.Value.{Value, null, truth, whole, text, array, object, Items, no_items, item, Members, no_members, member}

-- the bytes of a text, and its end
abbrev pub text_key : List ℕ → List ℕ
text_key [] = 0 ∷ 0 ∷ []
text_key (byte ∷ bytes) = if byte == 0 then 0 ∷ 255 ∷ text_key bytes else byte ∷ text_key bytes

-- how far a number lies above the least one, -2^63
abbrev pub height : ℤ → ℕ
height (pos n) = 2 ^ 63 + n
height (negsuc n) = 2 ^ 63 - (n + 1)

-- the height in nine bytes, the greatest first
abbrev pub number_key : ℤ → List ℕ
number_key n = bytes_high_first 9 (height n)

abbrev mutual
  -- the key of a value
  pub key : Value → List ℕ
  key null = 1 ∷ []
  key (truth false) = 2 ∷ []
  key (truth true) = 3 ∷ []
  key (whole n) = 4 ∷ number_key n
  key (text s) = 5 ∷ text_key s
  key (array vs) = 6 ∷ items_key vs
  key (object ms) = 7 ∷ members_key ms

  -- the keys of the elements, one behind another, and the end
  pub items_key : Items → List ℕ
  items_key no_items = 0 ∷ []
  items_key (item v vs) = key v ++ items_key vs

  -- for each member the key of its name and that of its value, and the end
  pub members_key : Members → List ℕ
  members_key no_members = 0 ∷ []
  members_key (member name v ms) = 5 ∷ (text_key name ++ (key v ++ members_key ms))
