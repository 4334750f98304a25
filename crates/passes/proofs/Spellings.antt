-- How the path and the query of a call are read.
use Rattle.std.proofs.Common.{◌≡◌, ◌≢◌, ◌≤◌, ◌<◌, ◌^◌, ◌==◌, ◌&&◌, not, ℕ, List, [], ◌∷◌, ◌++◌, length, map, Bool, true, false, Option, Some, None, option_and_then, All, codes, decimal, slice_get, nat_le, nat_lt, append_assoc, append-nil, length-append, ne_eqb, eq-eqb, eqb-true, le-leb, ltb-true, refl, sym, ap, ◌∙◌, subst, arith}
use Rattle.std.specs.Prelude.{IfSome}
use Rattle.std.specs.Char.{is_ascii_digit}
use Rattle.std.specs.List.{list_all}
use Rattle.std.specs.Str.{is_utf8}
use Rattle.std.specs.Str.Lossy.{utf8_lossy}
use Rattle.std.specs.Str.Parse.{AllDigits, digits_value}
use Rattle.std.proofs.lemmas.Bool.{and_from, and_parts, cond-true}
use Rattle.std.proofs.lemmas.Fmt.{decimal_is_IsNumeral, length-decimal-le}
use Rattle.std.proofs.lemmas.List.Elements.{All-nil, All-cons, All-append, All-weaker}
use Rattle.std.proofs.lemmas.List.Splits.{slice_split_at}
use Rattle.std.proofs.lemmas.List.Sums.{AllPass-from_list_all}
use Rattle.std.proofs.lemmas.Str.{IsUtf8-from_ascii, utf8_lossy-IsUtf8}
use Rattle.std.proofs.lemmas.Str.Ascii.{IsAscii-from_all}
use Rattle.std.proofs.lemmas.Str.Parse.{digit_from_value}
use Rattle.form_urlencoded.specs.Form.{IsPlain, raw_pairs, split_once, split_pair}
use Rattle.form_urlencoded.proofs.FormLemmas.{decode_plain, raw_pairs_first, raw_pairs-nil, split_once_after_at, split_once_after_none, split_once_before_at, split_once_before_none}
use Rattle.percent_encoding.specs.AsciiSet.{should_percent_encode}
use Rattle.percent_encoding.proofs.PercentLemmas.{All-percent_encode}
use Rattle.store.specs.DatabaseName.{is_database_name}
use Rattle.couch_json.specs.Range.{greatest_count}
use Rattle.api.specs.Listings.{count_in_text, is_count_text}
use Rattle.api.specs.Paths.{database_name_in, decoded_text, name_if, part_at, parts_of, slash, text_if}
use Rattle.api.specs.Queries.{form_text, parameter_of, parameters_in}
use Rattle.repl.specs.Calls.{changes_call_query, limit_part, page_path}
use Rattle.repl.specs.Spelling.{reserved_bytes, segment}
use Rattle.repl.proofs.Segments.{percent_decode-segment}

-- ---- the path

not_slash : (b : ℕ) (t : Bool) → (b == 47) ≡ t → should_percent_encode reserved_bytes b ≡ false → (b == 47) ≡ false
unfolding should_percent_encode
not_slash b true e kept =
    let same : b ≡ 47 = eqb-true b 47 e in
    absurd (let k : should_percent_encode reserved_bytes 47 ≡ false = subst (λ (x : ℕ). should_percent_encode reserved_bytes x ≡ false) same kept in let l : true ≡ false = k in cc)
not_slash b false e kept = e

-- no slash stands in a segment
pub slashless : (name : List ℕ) → All (λ b. (b == 47) ≡ false) (segment name)
slashless name =
    All-percent_encode (λ b. (b == 47) ≡ false) reserved_bytes name (λ b kept. not_slash b (b == 47) refl kept) (λ b escape. ne_eqb b 47 (λ e. grind arith))

pub parts-path : (db page : List ℕ) → parts_of (page_path db page) ≡ [] ∷ segment db ∷ parts_of page
parts-path db page =
    let joined : page_path db page ≡ 47 ∷ (segment db ++ 47 ∷ page) = ap (λ (x : List ℕ). 47 ∷ x) (append_assoc (segment db) (47 ∷ []) page) in
    ap parts_of joined ∙ ap (λ (ps : List (List ℕ)). [] ∷ ps) (slice_split_at (λ b. b == slash) (segment db) 47 page (slashless db) refl)

pub text_was : (good : Bool) (text name : List ℕ) → text_if good text ≡ Some name → text ≡ name
text_was true text name e = cc
text_was false text name e = absurd cc

name_was : (good : Bool) (text name : List ℕ) → option_and_then (λ t. name_if t) (text_if good text) ≡ Some name → text ≡ name
name_was true text name e = text_was (is_database_name text) text name e
name_was false text name e = absurd cc

-- the path of a call leads into the database that it names
pub leads_into : (db page name : List ℕ) → All (λ b. b < 256) db → database_name_in (page_path db page) ≡ Some name → db ≡ name
leads_into db page name small e =
    let at : part_at 1 (page_path db page) ≡ Some (segment db) = ap (λ (ps : List (List ℕ)). slice_get ps 1) (parts-path db page) in
    let is : database_name_in (page_path db page) ≡ option_and_then (λ t. name_if t) (text_if (is_utf8 db) db) =
    ap (λ (o : Option (List ℕ)). option_and_then (λ t. name_if t) (option_and_then (λ part. decoded_text part) o)) at
    ∙ ap (λ (t : List ℕ). option_and_then (λ u. name_if u) (text_if (is_utf8 t) t)) (percent_decode-segment db small) in
    name_was (is_utf8 db) db name (sym is ∙ e)

-- ---- texts that stand for themselves

-- neither `+` nor `%`, and ASCII
abbrev is_simple : ℕ → Bool
is_simple b = not (b == 43) && not (b == 37) && nat_lt b 128

record IsSimple (b : ℕ) : Type 0 where
  plus : b ≢ 43
  percent : b ≢ 37
  small : b < 128

not_same : (a b : ℕ) (t : Bool) → (a == b) ≡ t → not t ≡ true → a ≢ b
not_same a b true e h same = absurd cc
not_same a b false e h same = absurd (let k : (a == b) ≡ true = eq-eqb a b same in cc)

simple_by : (b : ℕ) → is_simple b ≡ true → IsSimple b
simple_by b e =
    let k = and_parts (not (b == 43) && not (b == 37)) (nat_lt b 128) e in
    let l = and_parts (not (b == 43)) (not (b == 37)) k.0 in
    record { plus = not_same b 43 (b == 43) refl l.0; percent = not_same b 37 (b == 37) refl l.1; small = ltb-true b 128 k.1 }

simple_literal : (bs : List ℕ) → list_all is_simple bs ≡ true → All IsSimple bs
simple_literal bs e = All-weaker (λ b. is_simple b ≡ true) IsSimple simple_by bs (AllPass-from_list_all is_simple bs e)

pub all_digits : (P : ℕ → Type 0) → ((c : ℕ) → 48 ≤ c → c ≤ 57 → P c) → (ds : List ℕ) → AllDigits 10 ds → All P ds
all_digits P each [] d = All-nil P
all_digits P each (c ∷ cs) d =
    let k = digit_from_value c d.0 in
    All-cons P c cs (each c (omega (arith, k)) (omega (arith, k))) (all_digits P each cs d.1)

simple_digits : (ds : List ℕ) → AllDigits 10 ds → All IsSimple ds
simple_digits ds d = all_digits IsSimple (λ c low high. record { plus = λ e. omega arith; percent = λ e. omega arith; small = omega arith }) ds d

simple_text : (bs : List ℕ) → All IsSimple bs → form_text bs ≡ bs
simple_text bs simple =
    ap utf8_lossy (decode_plain bs (All-weaker IsSimple IsPlain (λ b h. (h.plus, h.percent)) bs simple))
    ∙ utf8_lossy-IsUtf8 bs (IsUtf8-from_ascii bs (IsAscii-from_all bs (All-weaker IsSimple (λ b. b < 128) (λ b h. h.small) bs simple)))

-- ---- the query for the changes

are_digits : (ds : List ℕ) → AllDigits 10 ds → list_all is_ascii_digit ds ≡ true
are_digits [] d = refl
are_digits (c ∷ cs) d =
    let k = digit_from_value c d.0 in
    and_from (is_ascii_digit c) (list_all is_ascii_digit cs) (and_from _ _ (le-leb 48 c (omega (arith, k))) (le-leb c 57 (omega (arith, k)))) (are_digits cs d.1)

-- a count is read as it was written
pub count-decimal : (n : ℕ) → n ≤ greatest_count → count_in_text (decimal n) ≡ Some n
count-decimal n few =
    let small : n < 2 ^ 64 = omega arith in
    let k = decimal_is_IsNumeral n small in
    let ds = decimal n in
    let long : length ds ≤ 19 = length-decimal-le 19 n (omega arith) (omega arith) small in
    let is_text : is_count_text ds ≡ true =
    and_from (nat_le 1 (length ds) && nat_le (length ds) 19) (list_all is_ascii_digit ds)
    (and_from (nat_le 1 (length ds)) (nat_le (length ds) 19) (le-leb 1 (length ds) (omega (arith, k.0.0))) (le-leb (length ds) 19 long)) (are_digits ds k.0.1) in
    let fits : nat_le (digits_value 10 ds) greatest_count ≡ true = le-leb (digits_value 10 ds) greatest_count (omega (arith, k.1, few)) in
    cond-true _ _ _ (and_from (is_count_text ds) (nat_le (digits_value 10 ds) greatest_count) is_text fits) ∙ ap Some k.1

-- what stands before the ampersand
abbrev front : ℕ → List ℕ
front since = codes "since=" ++ decimal since

ampless_literal : (bs : List ℕ) → list_all (λ b. not (b == 38)) bs ≡ true → All (λ b. b ≢ 38) bs
ampless_literal bs e = All-weaker (λ b. not (b == 38) ≡ true) (λ b. b ≢ 38) (λ b h. not_same b 38 (b == 38) refl h) bs (AllPass-from_list_all (λ b. not (b == 38)) bs e)

style_pair : split_pair (codes "style=all_docs") ≡ (codes "style", codes "all_docs")
style_pair = refl

-- the parameter for how many at most
abbrev pub limit_pairs : Option ℕ → List (List ℕ × List ℕ)
limit_pairs None = []
limit_pairs (Some n) = (codes "limit", decimal n) ∷ []

-- the first pair of several
first_pair : (front rest : List ℕ) → All (λ b. b ≢ 38) front → 0 < length front → raw_pairs (front ++ 38 ∷ rest) ≡ split_pair front ∷ raw_pairs rest
first_pair front rest none some =
    let before : (split_once 38 (front ++ 38 ∷ rest)).0 ≡ front = split_once_before_at 38 front rest none in
    let after : (split_once 38 (front ++ 38 ∷ rest)).1 ≡ rest = split_once_after_at 38 front rest none in
    raw_pairs_first (front ++ 38 ∷ rest) (subst (λ (x : List ℕ). 0 < length x) (sym before) some)
    ∙ (λ i. split_pair (before i) ∷ raw_pairs (after i))

-- the only pair
only_pair : (front : List ℕ) → All (λ b. b ≢ 38) front → 0 < length front → raw_pairs front ≡ split_pair front ∷ []
only_pair front none some =
    let before : (split_once 38 front).0 ≡ front = split_once_before_none 38 front none in
    let after : (split_once 38 front).1 ≡ [] = split_once_after_none 38 front none in
    raw_pairs_first front (subst (λ (x : List ℕ). 0 < length x) (sym before) some)
    ∙ (λ i. split_pair (before i) ∷ raw_pairs (after i))
    ∙ ap (λ (ps : List (List ℕ × List ℕ)). split_pair front ∷ ps) raw_pairs-nil

-- a name of a parameter, and a number after it
ampless_number : (name : List ℕ) (n : ℕ) → n < 2 ^ 64 → list_all (λ b. not (b == 38)) name ≡ true → All (λ b. b ≢ 38) (name ++ decimal n)
ampless_number name n small e =
    All-append (λ b. b ≢ 38) name (decimal n) (ampless_literal name e) (all_digits (λ b. b ≢ 38) (λ c low high e. omega arith) (decimal n) (decimal_is_IsNumeral n small).0.1)

limited : (most : Option ℕ) → IfSome most (λ n. n < 2 ^ 64) → raw_pairs (codes "style=all_docs" ++ limit_part most) ≡ (codes "style", codes "all_docs") ∷ limit_pairs most
limited None few =
    ap raw_pairs (append-nil (codes "style=all_docs")) ∙ only_pair (codes "style=all_docs") (ampless_literal (codes "style=all_docs") refl) (omega arith)
    ∙ ap (λ (p : List ℕ × List ℕ). p ∷ []) style_pair
limited (Some n) few =
    let rest = codes "limit=" ++ decimal n in
    let pair : split_pair rest ≡ (codes "limit", decimal n) = refl in
    first_pair (codes "style=all_docs") rest (ampless_literal (codes "style=all_docs") refl) (omega arith)
    ∙ ap (λ (ps : List (List ℕ × List ℕ)). split_pair (codes "style=all_docs") ∷ ps)
    (only_pair rest (ampless_number (codes "limit=") n few refl) (omega (arith, length-append (codes "limit=") (decimal n))))
    ∙ (λ i. style_pair i ∷ pair i ∷ [])

pub changes-pairs : (since : ℕ) (most : Option ℕ) → since < 2 ^ 64 → IfSome most (λ n. n < 2 ^ 64)
    → raw_pairs (changes_call_query since most) ≡ (codes "since", decimal since) ∷ (codes "style", codes "all_docs") ∷ limit_pairs most
changes-pairs since most small few =
    let rest = codes "style=all_docs" ++ limit_part most in
    let is : changes_call_query since most ≡ front since ++ 38 ∷ rest =
    append_assoc (front since) (codes "&style=all_docs") (limit_part most) in
    let pair : split_pair (front since) ≡ (codes "since", decimal since) = refl in
    let none : All (λ b. b ≢ 38) (front since) = ampless_number (codes "since=") since small refl in
    ap raw_pairs is ∙ first_pair (front since) rest none (omega (arith, length-append (codes "since=") (decimal since)))
    ∙ (λ i. pair i ∷ limited most few i)

limit_form : (most : Option ℕ) → IfSome most (λ n. n < 2 ^ 64) → map parameter_of (limit_pairs most) ≡ limit_pairs most
limit_form None few = refl
limit_form (Some n) few =
    let name = simple_text (codes "limit") (simple_literal (codes "limit") refl) in
    let value = simple_text (decimal n) (simple_digits (decimal n) (decimal_is_IsNumeral n few).0.1) in
    (λ i. (name i, value i) ∷ [])

pub changes-parameters : (since : ℕ) (most : Option ℕ) → since < 2 ^ 64 → IfSome most (λ n. n < 2 ^ 64)
    → parameters_in (Some (changes_call_query since most)) ≡ (codes "since", decimal since) ∷ (codes "style", codes "all_docs") ∷ limit_pairs most
changes-parameters since most small few =
    let digits = (decimal_is_IsNumeral since small).0.1 in
    let a = simple_text (codes "since") (simple_literal (codes "since") refl) in
    let b = simple_text (decimal since) (simple_digits (decimal since) digits) in
    let c = simple_text (codes "style") (simple_literal (codes "style") refl) in
    let d = simple_text (codes "all_docs") (simple_literal (codes "all_docs") refl) in
    ap (map parameter_of) (changes-pairs since most small few) ∙ (λ i. (a i, b i) ∷ (c i, d i) ∷ limit_form most few i)
