-- What the words of a command line ask for, by what clap found, and which texts are numbers.
use Rattle.std.proofs.Common.{◌≡◌, ◌≢◌, ◌≤◌, ◌<◌, ◌^◌, ◌⊎◌, inl, inr, ℕ, Bool, true, false, ◌&&◌, List, [], ◌∷◌, Option, Some, None, Result, Ok, Err, length, nat_le, nat_lt, if◌then◌else◌, refl, sym, ap, ◌∙◌, arith}
use Rattle.std.specs.Prelude.{IfSome, option_map}
use Rattle.std.specs.Char.{is_ascii_digit}
use Rattle.std.specs.List.{list_all}
use Rattle.std.specs.Result.{OkIff}
use Rattle.std.specs.Str.{all_ascii_digits}
use Rattle.std.specs.Str.Parse.{ParsesUnsigned, digits_value}
use Rattle.std.proofs.lemmas.Bool.{and_parts, cases_lt, lt-leb, ltb-true}
use Rattle.std.proofs.lemmas.Str.Parse.{IsNumeralModel, numerals_by_value, tells_all_ascii_digits, parse_digits}
use Rattle.clap.specs.Words.{Kinds, Row, Text}
use Rattle.command_line.specs.Plan.{asked_unless, is_numeral, number_between}

-- ---- commands

-- words that clap refuses ask for nothing
pub asked_unless-refused : (kinds : Kinds) (command : Option (Text × List Row)) → kinds ≢ [] → asked_unless kinds command ≡ None
asked_unless-refused [] command some = absurd (some refl)
asked_unless-refused (kind ∷ kinds) command some = refl

-- ---- values

-- a text that is read out of what is there
pub text_there : {A : Type 0} (read : A → Text) (o : Option A) (t : Option Text) → option_map read o ≡ t → IfSome o (λ a. t ≡ Some (read a))
text_there read (Some a) t e = sym e
text_there read None t e = tt

-- where nothing is there, no text is
pub none_there : {A : Type 0} (read : A → Text) (o : Option A) (t : Option Text) → option_map read o ≡ t → o ≡ None → t ≡ None
none_there read o t e none = sym e ∙ ap (option_map read) none

-- ---- numbers

are_digits : (bs : List ℕ) → list_all is_ascii_digit bs ≡ all_ascii_digits bs
are_digits [] = refl
are_digits (b ∷ bs) = ap (λ t. is_ascii_digit b && t) (are_digits bs)

numerals : IsNumeralModel (λ ds. all_ascii_digits ds ≡ true) (digits_value 10)
numerals = numerals_by_value _ tells_all_ascii_digits

-- what `parse` gives at a numeral
parsed : {E : Type 0} (text : Text) (r : Result ℕ E) → ParsesUnsigned 32 10 text r → is_numeral text ≡ true
    → OkIff r ((0 < length text) × (digits_value 10 text < 2 ^ 32)) (digits_value 10 text)
parsed text r h is =
    parse_digits numerals 32 text r h (sym (are_digits text) ∙ (and_parts (nat_lt 0 (length text)) (list_all is_ascii_digit text) is).1)

-- ---- a number between two others

refused_by : {E : Type 0} (P : Type 0) (v : ℕ) (r : Result ℕ E) (e : E) → r ≡ Err e → OkIff r P v → ¬ P
refused_by P v (Ok n) e is h = absurd cc
refused_by P v (Err f) e is h = h

-- a numeral that `parse` refuses is too great
pub number_between-unparsed : {E : Type 0} (least most : ℕ) (text : Text) (r : Result ℕ E) (e : E) → ParsesUnsigned 32 10 text r → r ≡ Err e → is_numeral text ≡ true
    → most < 2 ^ 32 → number_between least most text ≡ None
number_between-unparsed {E} least most text r e h err is fits = by (cases_lt most (digits_value 10 text))
  where
    refused : ¬ ((0 < length text) × (digits_value 10 text < 2 ^ 32))
    refused = refused_by _ _ r e err (parsed text r h is)

    some : 0 < length text
    some = ltb-true 0 (length text) (and_parts (nat_lt 0 (length text)) (list_all is_ascii_digit text) is).0

    by : (most < digits_value 10 text) ⊎ (digits_value 10 text ≤ most) → number_between least most text ≡ None
    by (inl above) = rw (is, lt-leb (digits_value 10 text) most above) (none (nat_le least (digits_value 10 text)))
      where
        none : (b : Bool) → (if b && false then Some (digits_value 10 text) else None) ≡ None
        none true = refl
        none false = refl
    by (inr below) = absurd (refused (some, omega (arith, below, fits)))
