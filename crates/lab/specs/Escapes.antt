-- What a text with escapes spells: `\r`, `\n`, `\\` and `\xHH`, and any other byte itself.
-- This project's own; hexadecimal digits as in RFC 4648, section 8, in either case.
use Rattle.std.specs.Prelude.{ℕ, ◌+◌, ◌*◌, Bool, ◌==◌, List, [], ◌∷◌, Option, Some, None, option_map, option_and_then, if◌then◌else◌}
use Rattle.std.specs.Char.{digit_value, is_digit}

abbrev pub is_backslash : ℕ → Bool
is_backslash b = b == 92

-- the byte that a backslash and this one spell, but for `\x`
abbrev pub short_escape : ℕ → Option ℕ
short_escape b = if b == 114 then Some 13 else if b == 110 then Some 10 else if b == 92 then Some 92 else None

-- the value of a hexadecimal digit
abbrev pub hex_digit : ℕ → Option ℕ
hex_digit b = if is_digit b 16 then Some (digit_value b) else None

-- the byte that two hexadecimal digits spell
abbrev pub hex_byte : ℕ → ℕ → Option ℕ
hex_byte high low = option_and_then (λ h. option_map (λ l. 16 * h + l) (hex_digit low)) (hex_digit high)

abbrev pub put : ℕ → Option (List ℕ) → Option (List ℕ)
put b rest = option_map (λ bytes. b ∷ bytes) rest

abbrev mutual
  -- the bytes that a text spells, or none where a backslash in it begins no escape
  pub unescaped_text : List ℕ → Option (List ℕ)
  unescaped_text [] = Some []
  unescaped_text (b ∷ rest) = if is_backslash b then text_behind_backslash rest else put b (unescaped_text rest)

  -- those after a backslash
  pub text_behind_backslash : List ℕ → Option (List ℕ)
  text_behind_backslash [] = None
  text_behind_backslash (b ∷ rest) = if b == 120 then text_behind_x rest else option_and_then (λ byte. put byte (unescaped_text rest)) (short_escape b)

  -- those after `\x`
  pub text_behind_x : List ℕ → Option (List ℕ)
  text_behind_x [] = None
  text_behind_x (high ∷ []) = None
  text_behind_x (high ∷ low ∷ rest) = option_and_then (λ byte. put byte (unescaped_text rest)) (hex_byte high low)
