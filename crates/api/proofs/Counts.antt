-- A numeral of 1 to 19 digits is read as the number that it writes.
use Rattle.std.proofs.Common.{◌≡◌, ◌<◌, ◌≤◌, ◌&&◌, ◌^◌, leb-true, false, ℕ, true, List, [], ◌∷◌, Option, Some, None, Result, Ok, Err, cond, length, leb, arith, refl, sym, ap, ◌∙◌}
use Rattle.std.specs.Char.{is_ascii_digit}
use Rattle.std.specs.List.{list_all}
use Rattle.std.specs.Str.{all_ascii_digits}
use Rattle.std.specs.Str.Parse.{ParsesUnsigned, digits_value}
use Rattle.std.proofs.lemmas.Str.Parse.{parse_gives, digits_value_short}
use Rattle.tree.proofs.RevisionText.{decimals}
use Rattle.couch_json.specs.Range.{greatest_count}
use Rattle.api.specs.Listings.{count_in_text, is_count_text}

are_digits : (bs : List ℕ) → list_all is_ascii_digit bs ≡ all_ascii_digits bs
are_digits [] = refl
are_digits (b ∷ bs) = ap (λ t. is_ascii_digit b && t) (are_digits bs)

-- a number that was read, where it is not too great
abbrev pub at_most_greatest : {E : Type 0} → Result ℕ E → Option ℕ
at_most_greatest (Ok n) = cond (leb n greatest_count) (Some n) None
at_most_greatest (Err e) = None

both : (a b : _) → (a && b) ≡ true → (a ≡ true) × (b ≡ true)
both true b e = (refl, e)
both false b e = absurd cc

short_of : (bs : List ℕ) → is_count_text bs ≡ true → (all_ascii_digits bs ≡ true) × ((0 < length bs) × (length bs ≤ 19))
short_of bs e =
    let k = both (leb 1 (length bs) && leb (length bs) 19) (list_all is_ascii_digit bs) e in
    let l = both (leb 1 (length bs)) (leb (length bs) 19) k.0 in
    (sym (are_digits bs) ∙ k.1, (leb-true 1 (length bs) l.0, leb-true (length bs) 19 l.1))

pub count_parse : {E : Type 0} (bs : List ℕ) (r : Result ℕ E) → ParsesUnsigned 64 10 bs r → is_count_text bs ≡ true → count_in_text bs ≡ at_most_greatest r
count_parse {E} bs r h is =
    let s = short_of bs is in
    let low : digits_value 10 bs < 10 ^ 19 = digits_value_short decimals bs 19 s.0 s.1.1 in
    let given : r ≡ Ok (digits_value 10 bs) = parse_gives decimals 64 bs r h s.0 s.1.0 (omega (arith, low)) in
    rw (given, is) refl
