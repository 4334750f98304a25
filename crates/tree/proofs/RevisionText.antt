-- The texts of revisions: each lawful text reads as one revision, and that revision is written as that text.
use Rattle.std.proofs.Common.{◌≡◌, ◌≢◌, ℕ, ◌+◌, ◌<◌, ◌≤◌, ◌^◌, Bool, true, false, cond, ◌&&◌, leb, List, [], ◌∷◌, ◌++◌, length, get_or, drop, Option, Some, None, Result, Ok, Err, refl, sym, ap, subst, ◌∙◌, arith, codes, append_assoc, IsOk, MatchResult, MatchOption, lit<, le-leb, leb-true, eqb-true, zero, suc}
use Rattle.std.specs.Cmp.{first_so, second_so}
use Rattle.std.proofs.lemmas.Bool.Decides.{nat_tests}
use Rattle.std.proofs.lemmas.Str.Parse.{IsNumeralModel, numerals_by_value, tells_all_ascii_digits, parse_plain, digit_at}
use Rattle.std.proofs.lemmas.Str.{IsUtf8-from_ascii}
use Rattle.std.proofs.lemmas.Str.Ascii.{IsAscii-nil, IsAscii-cons}
use Rattle.std.proofs.lemmas.Fmt.{decimal-digits_value, decimal_digit, decimal_is_IsNumeral, digits_decimal, digits_value-decimal, first_decimal, IsAscii-from_digits}
use Rattle.std.proofs.lemmas.List.{length-append, length-drop, get_or_append_left, get_or_at, take_at, drop_at}
use Rattle.std.proofs.lemmas.List.Sums.{split_at_first, passes_at_first, position_or_len_is}
use Rattle.std.specs.Str.{all_ascii_digits, IsAscii, IsUtf8}
use Rattle.std.specs.Str.Parse.{ParsesUnsigned, digits_value}
use Rattle.std.specs.Result.{OkIff}
use Rattle.std.specs.Fmt.{decimal}
use Rattle.std.specs.List.{list_all, before_first, after_first, position_or_len}
use Rattle.std.specs.Char.{is_ascii_alphanumeric}
use Rattle.tree.specs.Revision.{Revision, greatest_number, is_revision, is_number_text, number_read, is_hash, is_dash, revision_read, text_of}

-- ---- tests

abbrev IsBoth : Bool → Bool → Type 0
IsBoth a b = (a ≡ true) × (b ≡ true)

pub parts : (a b : Bool) → (a && b) ≡ true → IsBoth a b
parts a b h = (first_so a b h, second_so a b h)

chosen : {X : Type 0} (b : Bool) (x y : X) → cond b (Some x) None ≡ Some y → (b ≡ true) × (x ≡ y)
chosen true x y e = (refl, cc)
chosen false x y e = cc

-- ---- ASCII

low_alphanumeric : (b : ℕ) → is_ascii_alphanumeric b ≡ true → b < 128
low_alphanumeric b h = grind (arith, nat_tests)

IsAscii-alphanumeric : (bs : List ℕ) → list_all is_ascii_alphanumeric bs ≡ true → IsAscii bs
IsAscii-alphanumeric [] h = IsAscii-nil
IsAscii-alphanumeric (b ∷ bs) h =
    let p = parts _ _ h in
    IsAscii-cons b bs (low_alphanumeric b p.0) (IsAscii-alphanumeric bs p.1)

pub IsUtf8-hash : (hash : List ℕ) → is_hash hash ≡ true → IsUtf8 hash
IsUtf8-hash hash h = IsUtf8-from_ascii hash (IsAscii-alphanumeric hash (second_so _ _ h))

pub IsUtf8-revision : (r : Revision) → is_revision r ≡ true → IsUtf8 r.hash
IsUtf8-revision r h = IsUtf8-hash r.hash (second_so _ _ h)

pub IsOk-text : {T E : Type 0} (bs : List ℕ) (P : T → Type 0) (Q : E → Type 0) (r : Result T E) → IsUtf8 bs → MatchResult r P (λ e. ¬ (IsUtf8 bs) × Q e) → IsOk r
IsOk-text bs P Q (Ok x) u m = refl
IsOk-text bs P Q (Err e) u m = absurd (m.0 u)

-- ---- numerals

-- decimal digits as `all_ascii_digits` tells them, with the value that `parse` gives
pub decimals : IsNumeralModel (λ ds. all_ascii_digits ds ≡ true) (digits_value 10)
decimals = numerals_by_value _ tells_all_ascii_digits

abbrev at_most_greatest : {E : Type 0} → Result ℕ E → Option ℕ
at_most_greatest (Ok n) = cond (leb n greatest_number) (Some n) None
at_most_greatest (Err e) = None

three : {X : Type 0} (a b c : Bool) (x y : X) → a ≡ true → b ≡ true → cond (a && b && c) x y ≡ cond c x y
three a b c x y p q = rw (p, q) refl

refused : {X : Type 0} (a b c : Bool) (x : X) → (stop : IsBoth a b → c ≡ true → ⊥) → cond (a && b && c) (Some x) None ≡ None
refused true true true x stop = absurd (stop (refl, refl) refl)
refused true true false x stop = refl
refused true false c x stop = refl
refused false b c x stop = refl

some_length : (bs : List ℕ) → 49 ≤ get_or bs 0 0 → 0 < length bs
some_length [] h = absurd (omega arith)
some_length (b ∷ bs) h = omega arith

below_32 : (n : ℕ) → leb n greatest_number ≡ true → n < 2 ^ 32
below_32 n h = grind (arith, nat_tests)

pub number_read-parse : {E : Type 0} (bs : List ℕ) (r : Result ℕ E) → 49 ≤ get_or bs 0 0 → ParsesUnsigned 32 10 bs r → number_read bs ≡ at_most_greatest r
number_read-parse {E} bs r first h = by r (parse_plain decimals 32 bs r h (λ e. absurd (omega arith)))
  where
    by : (r : Result ℕ E) → OkIff r ((all_ascii_digits bs ≡ true) × (0 < length bs) × (digits_value 10 bs < 2 ^ 32)) (digits_value 10 bs) → number_read bs ≡ at_most_greatest r
    by (Ok n) q =
        three (leb 49 (get_or bs 0 0)) (all_ascii_digits bs) (leb (digits_value 10 bs) greatest_number) (Some (digits_value 10 bs)) None (le-leb 49 (get_or bs 0 0) first) q.0.0
        ∙ ap (λ (v : ℕ). cond (leb v greatest_number) (Some v) None) (sym q.1)
    by (Err e) q =
        refused (leb 49 (get_or bs 0 0)) (all_ascii_digits bs) (leb (digits_value 10 bs) greatest_number) (digits_value 10 bs)
        (λ b c. q (b.1, some_length bs first, below_32 _ c))

pub number_read-low : (bs : List ℕ) → get_or bs 0 0 < 49 → number_read bs ≡ None
number_read-low bs h =
    refused (leb 49 (get_or bs 0 0)) (all_ascii_digits bs) (leb (digits_value 10 bs) greatest_number) (digits_value 10 bs)
    (λ b c. let p : 49 ≤ get_or bs 0 0 = leb-true 49 (get_or bs 0 0) b.0 in absurd (omega arith))

pub number_read-none : (bs : List ℕ) → ¬ (IsUtf8 bs) → number_read bs ≡ None
number_read-none bs never =
    refused (leb 49 (get_or bs 0 0)) (all_ascii_digits bs) (leb (digits_value 10 bs) greatest_number) (digits_value 10 bs)
    (λ b c. never (IsUtf8-from_ascii bs (IsAscii-from_digits bs (decimals.to bs b.1))))

-- ---- from a text to its revision and back

value_positive : (ds : List ℕ) → 49 ≤ get_or ds 0 0 → all_ascii_digits ds ≡ true → decimal (digits_value 10 ds) ≡ ds → 1 ≤ digits_value 10 ds
value_positive ds first digits e = by (digits_value 10 ds) refl
  where
    by : (n : ℕ) → digits_value 10 ds ≡ n → 1 ≤ digits_value 10 ds
    by zero z = let f : get_or ds 0 0 ≡ 48 = ap (λ (xs : List ℕ). get_or xs 0 0) (sym e ∙ ap decimal z ∙ decimal_digit 0 (lit< tt)) in absurd (omega arith)
    by (suc n) z = omega arith

decimal-value : (ds : List ℕ) → 49 ≤ get_or ds 0 0 → all_ascii_digits ds ≡ true → digits_value 10 ds < 2 ^ 32 → decimal (digits_value 10 ds) ≡ ds
decimal-value ds first digits low =
    decimal-digits_value decimals ds digits (some_length ds first) (λ e. absurd (omega arith)) (omega arith)

-- a text with a hash behind its first dash is what stands before the dash, the dash, and the hash
around_dash : (text : List ℕ) → 0 < length (after_first is_dash text) → before_first is_dash text ++ (45 ∷ after_first is_dash text) ≡ text
around_dash text h =
    let within : position_or_len is_dash text < length text = omega (arith, length-drop (position_or_len is_dash text + 1) text) in
    let dash : get_or text (position_or_len is_dash text) 0 ≡ 45 = eqb-true _ _ (passes_at_first is_dash text 0 within) in
    sym (split_at_first is_dash text 0 within ∙ ap (λ (b : ℕ). before_first is_dash text ++ (b ∷ after_first is_dash text)) dash)

-- a numeral without a leading zero, and the number that it writes
pub record IsWritten (ds : List ℕ) : Type 0 where
  pub positive : 1 ≤ digits_value 10 ds
  pub bounded : leb (digits_value 10 ds) greatest_number ≡ true
  pub written : decimal (digits_value 10 ds) ≡ ds

is_written : (ds : List ℕ) → is_number_text ds ≡ true → IsWritten ds
is_written ds h =
    let numeral = parts _ _ h in
    let front = parts _ _ numeral.0 in
    let first : 49 ≤ get_or ds 0 0 = leb-true _ _ front.0 in
    let written = decimal-value ds first front.1 (below_32 (digits_value 10 ds) numeral.1) in
    record { positive = value_positive ds first front.1 written; bounded = numeral.1; written = written }

lawful_read : (ds hash : List ℕ) → is_number_text ds ≡ true → is_hash hash ≡ true → is_revision (record { number = digits_value 10 ds; hash = hash }) ≡ true
lawful_read ds hash h k = let w = is_written ds h in rw (le-leb _ _ w.positive, w.bounded, k) refl

pub lawful_parts : (ds hash : List ℕ) (n : ℕ) → number_read ds ≡ Some n → is_hash hash ≡ true → is_revision (record { number = n; hash = hash }) ≡ true
lawful_parts ds hash n e k =
    let c = chosen (is_number_text ds) (digits_value 10 ds) n e in
    subst (λ (m : ℕ). is_revision (record { number = m; hash = hash }) ≡ true) c.1 (lawful_read ds hash c.0 k)

pub read_gives : (text : List ℕ) (r : Revision) → revision_read text ≡ Some r → (is_revision r ≡ true) × (text_of r ≡ text)
read_gives text r e =
    let digits = before_first is_dash text in
    let hash = after_first is_dash text in
    let read : Revision = record { number = digits_value 10 digits; hash = hash } in
    let c = chosen (is_number_text digits && is_hash hash) read r e in
    let lawful = parts (is_number_text digits) (is_hash hash) c.0 in
    let present : 0 < length hash = leb-true _ _ (parts _ _ (parts _ _ lawful.1).0).0 in
    let spelled : text_of read ≡ text = append_assoc (decimal (digits_value 10 digits)) (codes "-") hash ∙ ap (λ (ds : List ℕ). ds ++ (45 ∷ hash)) (is_written digits lawful.0).written ∙ around_dash text present in
    (subst (λ (s : Revision). is_revision s ≡ true) c.1 (lawful_read digits hash lawful.0 lawful.1), subst (λ (s : Revision). text_of s ≡ text) c.1 spelled)

no_dash : (n k : ℕ) → n < 2 ^ 64 → k < length (decimal n) → is_dash (get_or (decimal n) k 0) ≡ false
no_dash n k h lt = let d = digit_at (decimal n) k (decimal_is_IsNumeral n h).0.1 lt in grind (arith, nat_tests)

dash_after : (n : ℕ) (hash : List ℕ) → n < 2 ^ 64 → position_or_len is_dash (decimal n ++ (45 ∷ hash)) ≡ length (decimal n)
dash_after n hash h =
    position_or_len_is is_dash (decimal n ++ (45 ∷ hash)) (length (decimal n)) 0
    (omega (arith, length-append (decimal n) (45 ∷ hash)))
    (λ k lt. ap is_dash (get_or_append_left (decimal n) (45 ∷ hash) 0 k lt) ∙ no_dash n k h lt)
    (λ lt. ap is_dash (get_or_at (decimal n) 45 hash 0 (length (decimal n)) refl))

number_of_decimal : (n : ℕ) → 1 ≤ n → n ≤ greatest_number → is_number_text (decimal n) ≡ true
number_of_decimal n low high =
    let fits : n < 2 ^ 64 = omega arith in
    let first : 49 ≤ get_or (decimal n) 0 0 = first_decimal n (omega arith) fits in
    let value : digits_value 10 (decimal n) ≡ n = digits_value-decimal decimals n fits in
    rw (le-leb _ _ first, digits_decimal decimals n fits, value, le-leb _ _ high) refl

pub read_of_text : (r : Revision) → is_revision r ≡ true → revision_read (text_of r) ≡ Some r
read_of_text r h =
    let p = parts _ _ h in
    let q = parts _ _ p.0 in
    let low : 1 ≤ r.number = leb-true _ _ q.0 in
    let high : r.number ≤ greatest_number = leb-true _ _ q.1 in
    let fits : r.number < 2 ^ 64 = omega arith in
    let spelled : text_of r ≡ decimal r.number ++ (45 ∷ r.hash) = append_assoc (decimal r.number) (codes "-") r.hash in
    let place = dash_after r.number r.hash fits in
    let front : before_first is_dash (decimal r.number ++ (45 ∷ r.hash)) ≡ decimal r.number = take_at (decimal r.number) (45 ∷ r.hash) _ (sym place) in
    let rest : after_first is_dash (decimal r.number ++ (45 ∷ r.hash)) ≡ r.hash =
    ap (λ (n : ℕ). drop (n + 1) (decimal r.number ++ (45 ∷ r.hash))) place
    ∙ ap (drop (length (decimal r.number) + 1)) (sym spelled)
    ∙ drop_at (decimal r.number ++ codes "-") r.hash (length (decimal r.number) + 1) (length-append (decimal r.number) (codes "-")) in
    let value : digits_value 10 (decimal r.number) ≡ r.number = digits_value-decimal decimals r.number fits in
    ap revision_read spelled
    ∙ (λ i. cond (is_number_text (front i) && is_hash (rest i)) (Some (record { number = digits_value 10 (front i); hash = rest i })) None)
    ∙ (λ i. cond (number_of_decimal r.number low high i && p.1 i) (Some (record { number = value i; hash = r.hash })) None)

-- what is read is lawful and is written as it was, and where nothing is read no revision is written so
pub read_exactly : (text : List ℕ) → MatchOption (revision_read text) ((r : Revision) → is_revision r ≡ true → text_of r ≢ text) (λ r. (is_revision r ≡ true) × (text_of r ≡ text))
read_exactly text = by (revision_read text) refl
  where
    by : (o : Option Revision) → revision_read text ≡ o → MatchOption o ((r : Revision) → is_revision r ≡ true → text_of r ≢ text) (λ r. (is_revision r ≡ true) × (text_of r ≡ text))
    by None e = λ r h same. let found : revision_read text ≡ Some r = ap revision_read (sym same) ∙ read_of_text r h in cc
    by (Some r) e = read_gives text r e
