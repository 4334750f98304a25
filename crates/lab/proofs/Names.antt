-- The names of nodes and databases are of ASCII bytes, and so are text, also with a slash between.
use Rattle.std.proofs.Common.{ℕ, ◌≡◌, ◌<◌, ◌+◌, ◌++◌, ◌==◌, ◌&&◌, Bool, true, false, zero, suc, List, [], ◌∷◌, Option, Some, None, option_map, option_and_then, take, drop, length, ltb, cond, get_or, arith, refl, sym, subst}
use Rattle.std.specs.List.{list_all, position_or_len}
use Rattle.std.specs.Str.{IsUtf8}
use Rattle.std.proofs.lemmas.Bool.Decides.{nat_tests}
use Rattle.std.proofs.lemmas.Grind.{common_steps}
use Rattle.std.proofs.lemmas.Iterator.Adapters.{position_from-zero}
use Rattle.std.proofs.lemmas.List.Sums.{passes_at_first, split_at_first}
use Rattle.std.proofs.lemmas.Str.{IsUtf8-append, IsUtf8-from_ascii}
use Rattle.store.specs.DatabaseName.{is_database_name, is_name_byte}
use Rattle.lab.specs.PassLines.{PassSide, side_of, side_with}
use Rattle.lab.specs.Words.{is_letter_or_digit, is_node_name}

name_byte_small : (b : ℕ) → is_name_byte b ≡ true → b < 128
name_byte_small b h = grind (arith, nat_tests)

name_bytes_small : (bytes : List ℕ) → list_all is_name_byte bytes ≡ true → (i : ℕ) → get_or bytes i 0 < 128
name_bytes_small [] h i = omega arith
name_bytes_small (b ∷ bytes) h zero = let first : is_name_byte b ≡ true = grind (arith, common_steps) in name_byte_small b first
name_bytes_small (b ∷ bytes) h (suc i) = let rest : list_all is_name_byte bytes ≡ true = grind (arith, common_steps) in name_bytes_small bytes rest i

pub database_name_is_text : (bytes : List ℕ) → is_database_name bytes ≡ true → IsUtf8 bytes
database_name_is_text bytes h =
    let all : list_all is_name_byte bytes ≡ true = grind (arith, common_steps) in
    IsUtf8-from_ascii bytes (name_bytes_small bytes all)

letter_small : (b : ℕ) → is_letter_or_digit b ≡ true → b < 128
letter_small b h = grind (arith, nat_tests)

letters_small : (bytes : List ℕ) → list_all is_letter_or_digit bytes ≡ true → (i : ℕ) → get_or bytes i 0 < 128
letters_small [] h i = omega arith
letters_small (b ∷ bytes) h zero = let first : is_letter_or_digit b ≡ true = grind (arith, common_steps) in letter_small b first
letters_small (b ∷ bytes) h (suc i) = let rest : list_all is_letter_or_digit bytes ≡ true = grind (arith, common_steps) in letters_small bytes rest i

node_name_is_text : (bytes : List ℕ) → is_node_name bytes ≡ true → IsUtf8 bytes
node_name_is_text bytes h =
    let all : list_all is_letter_or_digit bytes ≡ true = grind (arith, common_steps) in
    IsUtf8-from_ascii bytes (letters_small bytes all)

one_small : (b : ℕ) → b < 128 → (i : ℕ) → get_or (b ∷ []) i 0 < 128
one_small b h zero = h
one_small b h (suc i) = omega arith

slash_small : (b : ℕ) → (b == 47) ≡ true → b < 128
slash_small b h = grind (arith, nat_tests)

names_are_text : (bytes : List ℕ) (n : ℕ) → n ≡ position_or_len (λ b. b == 47) bytes → n < length bytes
    → (is_node_name (take n bytes) && is_database_name (drop (n + 1) bytes)) ≡ true → IsUtf8 bytes
names_are_text bytes n is inside h =
    let node : is_node_name (take n bytes) ≡ true = grind (arith, common_steps) in
    let name : is_database_name (drop (n + 1) bytes) ≡ true = grind (arith, common_steps) in
    let slash : (get_or bytes n 0 == 47) ≡ true = rw is (passes_at_first (λ b. b == 47) bytes 0 (rw (sym is) inside)) in
    let parts : bytes ≡ take n bytes ++ (get_or bytes n 0 ∷ drop (n + 1) bytes) = rw is (split_at_first (λ b. b == 47) bytes 0 (rw (sym is) inside)) in
    subst IsUtf8 (sym parts) (IsUtf8-append (take n bytes) (get_or bytes n 0 ∷ drop (n + 1) bytes) (node_name_is_text (take n bytes) node)
    (IsUtf8-append (get_or bytes n 0 ∷ []) (drop (n + 1) bytes)
    (IsUtf8-from_ascii (get_or bytes n 0 ∷ []) (one_small (get_or bytes n 0) (slash_small (get_or bytes n 0) slash)))
    (database_name_is_text (drop (n + 1) bytes) name)))

-- a side at this place of a slash
abbrev side_at : List ℕ → Option ℕ → Option PassSide
side_at bytes place = option_and_then (λ (p : List ℕ × List ℕ). side_with bytes p.0 p.1) (option_map (λ n. (take n bytes, drop (n + 1) bytes)) place)

-- bytes that are no text are no side
pub side_of-none : (bytes : List ℕ) → (IsUtf8 bytes → ⊥) → side_of bytes ≡ None
side_of-none bytes refuted =
    subst (λ (place : Option ℕ). side_at bytes place ≡ None) (position_from-zero (λ b. b == 47) bytes) (at_place (ltb place (length bytes)) refl)
  where
    place : ℕ
    place = position_or_len (λ b. b == 47) bytes

    with_names : place < length bytes → (b : Bool) → (is_node_name (take place bytes) && is_database_name (drop (place + 1) bytes)) ≡ b
        → side_at bytes (Some place) ≡ None
    with_names inside true is = absurd (refuted (names_are_text bytes place refl inside is))
    with_names inside false is = rw is refl

    at_place : (b : Bool) → ltb place (length bytes) ≡ b → side_at bytes (cond b (Some place) None) ≡ None
    at_place true is = with_names (grind (arith, nat_tests)) (is_node_name (take place bytes) && is_database_name (drop (place + 1) bytes)) refl
    at_place false is = refl
