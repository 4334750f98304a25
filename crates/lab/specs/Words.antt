-- The words of a line: runs of bytes with one space between.
-- This project's own.
use Rattle.std.specs.Prelude.{ℕ, ◌+◌, Bool, not, ◌&&◌, ◌||◌, ◌==◌, List, length, take, drop, nat_lt, nat_le, Option, option_map}
use Rattle.std.specs.List.{list_all, list_any, position_from}
use Rattle.std.specs.Str.{is_utf8}

abbrev pub is_space : ℕ → Bool
is_space b = b == 32

-- what stands before the first such byte, and what stands behind it
abbrev pub parts_at : ℕ → List ℕ → Option (List ℕ × List ℕ)
parts_at byte bytes = option_map (λ n. (take n bytes, drop (n + 1) bytes)) (position_from (λ b. b == byte) 0 bytes)

abbrev pub parts_at_space : List ℕ → Option (List ℕ × List ℕ)
parts_at_space bytes = parts_at 32 bytes

abbrev pub parts_at_slash : List ℕ → Option (List ℕ × List ℕ)
parts_at_slash bytes = parts_at 47 bytes

-- a word: a nonempty run of bytes without a space
abbrev pub is_word : List ℕ → Bool
is_word bytes = nat_lt 0 (length bytes) && not (list_any is_space bytes)

-- a word that is text in UTF-8
abbrev pub is_text_word : List ℕ → Bool
is_text_word bytes = is_word bytes && is_utf8 bytes

abbrev pub is_letter_or_digit : ℕ → Bool
is_letter_or_digit b = (nat_le 48 b && nat_le b 57) || (nat_le 65 b && nat_le b 90) || (nat_le 97 b && nat_le b 122)

-- the name of a node: ASCII letters and digits
abbrev pub is_node_name : List ℕ → Bool
is_node_name bytes = nat_lt 0 (length bytes) && list_all is_letter_or_digit bytes
