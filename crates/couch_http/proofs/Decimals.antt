-- Numbers in decimal digits.
use Rattle.std.proofs.Common.{◌≡◌, ℕ, ◌+◌, ◌-◌, ◌*◌, ◌/◌, ◌%◌, ◌^◌, ◌<◌, ◌≤◌, true, nat_lt, List, [], ◌∷◌, ◌++◌, length, get_or, drop, decimal, refl, arith}
use Rattle.std.proofs.lemmas.Bool.Decides.{nat_tests}
use Rattle.std.proofs.lemmas.Fmt.{decimal_digit, decimal_is_IsNumeral, decimal_step, digits_value-decimal}
use Rattle.std.proofs.lemmas.List.{at_drop_more}
use Rattle.std.proofs.lemmas.Str.Parse.{FoldsDigits, digit_from_value, numerals_by_fold, tells_all_ascii_digits}
use Rattle.std.specs.Char.{digit_value, is_ascii_digit}
use Rattle.std.specs.List.{list_all}
use Rattle.std.specs.Str.{all_ascii_digits}
use Rattle.std.specs.Str.Parse.{AllDigits}
use Rattle.couch_http.specs.Fields.{decimal_after}

-- more digits make no smaller number
pub le_decimal_after : (digits : List ℕ) (n : ℕ) → n ≤ decimal_after n digits
le_decimal_after [] n = omega arith
le_decimal_after (d ∷ digits) n =
    omega (arith, le_decimal_after digits (n * 10 + (d - 48)))

-- a number that is too large after one more digit is so at the end
pub decimal_after_over : (digits : List ℕ) (i n most : ℕ) → i < length digits
    → decimal_after n (drop i digits) ≡ decimal_after 0 digits → most < n * 10 + (get_or digits i 0 - 48)
    → nat_lt most (decimal_after 0 digits) ≡ true
decimal_after_over digits i n most inside made over =
    let step : decimal_after n (drop i digits) ≡ decimal_after (n * 10 + (get_or digits i 0 - 48)) (drop (i + 1) digits) =
    at_drop_more (decimal_after n) digits i 0 inside in
    let grows = le_decimal_after (drop (i + 1) digits) (n * 10 + (get_or digits i 0 - 48)) in
    let large : most < decimal_after 0 digits = omega (arith, grows, made, step) in
    grind (arith, nat_tests)

-- ---- what is written is read back

digits_fold : FoldsDigits decimal_after
digits_fold = record { empty = λ n. refl; more = λ n c cs digit. refl }

-- a number that is written in decimal is read as it was
pub decimal_after-decimal : (n : ℕ) → n < 2 ^ 64 → decimal_after 0 (decimal n) ≡ n
decimal_after-decimal n small =
    digits_value-decimal (numerals_by_fold (λ ds. all_ascii_digits ds ≡ true) tells_all_ascii_digits decimal_after digits_fold) n small

digit_byte : (c : ℕ) → digit_value c < 10 → is_ascii_digit c ≡ true
digit_byte c digit = let place = digit_from_value c digit in grind (arith, nat_tests)

digit_bytes : (ds : List ℕ) → AllDigits 10 ds → list_all is_ascii_digit ds ≡ true
digit_bytes [] all = refl
digit_bytes (c ∷ ds) all = rw (digit_byte c all.0, digit_bytes ds all.1) refl

pub decimal_digits : (n : ℕ) → n < 2 ^ 64 → list_all is_ascii_digit (decimal n) ≡ true
decimal_digits n small = digit_bytes (decimal n) (decimal_is_IsNumeral n small).0.1

-- a number of three digits
pub length-decimal_three : (n : ℕ) → 100 ≤ n → n < 1000 → length (decimal n) ≡ 3
length-decimal_three n low high =
    let first : decimal (n / 10 / 10) ≡ (48 + n / 10 / 10) ∷ [] = decimal_digit (n / 10 / 10) (omega arith) in
    let front : decimal (n / 10) ≡ decimal (n / 10 / 10) ++ ((48 + n / 10 % 10) ∷ []) = decimal_step (n / 10) (omega arith) (omega arith) in
    let all : decimal n ≡ decimal (n / 10) ++ ((48 + n % 10) ∷ []) = decimal_step n (omega arith) (omega arith) in
    rw (all, front, first) refl
