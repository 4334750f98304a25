-- The heads of our replies, as heads of the grammar and as lines.
use Rattle.std.proofs.Common.{◌≡◌, ◌≢◌, ℕ, zero, suc, ◌-◌, ◌<◌, ◌≤◌, ◌^◌, Bool, true, false, ◌&&◌, IsTrue, nat_lt, List, [], ◌∷◌, ◌++◌, length, decimal, codes, refl, sym, ap, ◌∙◌, arith, append_assoc, length-append, map, reverse, Some, Ok, All, flat_map, inr}
use Rattle.std.proofs.lemmas.Bool.{and_parts, le-ltb, lt-ltb, ltb-true}
use Rattle.std.proofs.lemmas.Bool.Decides.{nat_tests, Decides-below_and}
use Rattle.std.proofs.lemmas.Fmt.{decimal_is_IsNumeral, decimal_nonempty, length-decimal-le}
use Rattle.std.proofs.lemmas.List.Elements.{All-append, All-cons, All-head, All-nil, All-weaker}
use Rattle.std.proofs.lemmas.List.Sums.{AllPass-from_list_all}
use Rattle.std.specs.Char.{is_ascii_digit}
use Rattle.std.specs.List.{list_all}
use Rattle.http.specs.StatusCode.{IsStatusCode}
use Rattle.httparse.specs.Ascii.{crlf_bytes}
use Rattle.httparse.specs.Grammar.{AllPass, Field, IsField, IsResponseHead, IsToken, ResponseHead, crlf, is_ows, is_token_byte, is_value_byte, print_field, print_response, skip_ows, status_code, trim_ows}
use Rattle.httparse.proofs.TrimLemmas.{AllPass-reverse, trim_ows_space}
use Rattle.couch_http.specs.Fields as Fields
use Rattle.couch_http.specs.Fields.{has_transfer_encoding, same_name}
use Rattle.couch_http.specs.Front.{head_limit, header_limit, is_too_large}
use Rattle.couch_http.specs.Head.{IsEmptyLine, IsHead, IsTextLine}
use Rattle.couch_http.specs.Reply.{close_line, length_line, phrase_of, reply_head, status_line, type_line}
use Rattle.couch_http.specs.ReplyStream.{reply_length, reply_limit}
use Rattle.couch_http.specs.Stream.{field_of}
use Rattle.couch_http.proofs.Decimals.{decimal_after-decimal, decimal_digits, length-decimal_three}
use Rattle.couch_http.proofs.HeadLaws.{no_nil, no_return, other_byte}

-- ---- texts of a line

-- bytes that are written out pass a test that computes
written : (test : ℕ → Bool) (bytes : List ℕ) → list_all test bytes ≡ true → AllPass test bytes
written = AllPass-from_list_all

digits_are_values : (bytes : List ℕ) → AllPass is_ascii_digit bytes → AllPass is_value_byte bytes
digits_are_values bytes pass = All-weaker (λ b. IsTrue (is_ascii_digit b)) (λ b. IsTrue (is_value_byte b)) (λ b digit. grind (arith, nat_tests)) bytes pass

all_digits : (n : ℕ) → n < 2 ^ 64 → AllPass is_ascii_digit (decimal n)
all_digits n small = AllPass-from_list_all is_ascii_digit (decimal n) (decimal_digits n small)

both : (a b : List ℕ) → AllPass is_value_byte a → AllPass is_value_byte b → AllPass is_value_byte (a ++ b)
both = All-append (λ b. IsTrue (is_value_byte b))

-- ---- phrases

-- a phrase stands in a line, and is short
abbrev is_plain : List ℕ → Bool
is_plain phrase = list_all is_value_byte phrase && nat_lt (length phrase) 64

abbrev are_plain_below : ℕ → Bool
are_plain_below zero = true
are_plain_below (suc n) = is_plain (phrase_of n) && are_plain_below n

plain_phrase : (n : ℕ) → n < 1000 → is_plain (phrase_of n) ≡ true
plain_phrase n below =
    let test = λ (k : ℕ). is_plain (phrase_of k) in
    (Decides-below_and test (λ k. test k ≡ true) are_plain_below (λ k. (λ x. x, λ x. x)) refl (λ _. refl) 1000).0 refl n below

phrase_values : (n : ℕ) → n < 1000 → AllPass is_value_byte (phrase_of n)
phrase_values n below = AllPass-from_list_all is_value_byte (phrase_of n) (and_parts _ _ (plain_phrase n below)).0

length-phrase_of : (n : ℕ) → n < 1000 → length (phrase_of n) < 64
length-phrase_of n below = ltb-true (length (phrase_of n)) 64 (and_parts _ _ (plain_phrase n below)).1

-- ---- the grammar

pub type_field : Field
type_field = record { name = codes "Content-Type"; raw = codes " application/json"; end = crlf }

pub length_field : ℕ → Field
length_field size = record { name = codes "Content-Length"; raw = 32 ∷ decimal size; end = crlf }

pub close_fields : Bool → List Field
close_fields true = record { name = codes "Connection"; raw = codes " close"; end = crlf } ∷ []
close_fields false = []

-- the head of a reply of ours
pub head_of : ℕ → ℕ → Bool → ResponseHead
head_of status size last = record {
  blank = [];
  minor = 1;
  digits = decimal status;
  reason = Some (phrase_of status);
  line_end = crlf;
  fields = type_field ∷ length_field size ∷ close_fields last;
  last = crlf;
}

token : (bytes : List ℕ) → 0 < length bytes → list_all is_token_byte bytes ≡ true → IsToken bytes
token bytes some all = (some, written is_token_byte bytes all)

IsField-type : IsField type_field
unfolding is_token_byte type_field
IsField-type = record { name = token (codes "Content-Type") (omega arith) refl; raw = written is_value_byte (codes " application/json") refl }

IsField-length : (size : ℕ) → size < 2 ^ 64 → IsField (length_field size)
unfolding is_token_byte length_field
IsField-length size small = record {
  name = token (codes "Content-Length") (omega arith) refl;
  raw = All-cons (λ b. IsTrue (is_value_byte b)) 32 (decimal size) refl (digits_are_values (decimal size) (all_digits size small));
}

IsField-close : (last : Bool) → All IsField (close_fields last)
unfolding is_token_byte close_fields
IsField-close true =
    All-cons IsField _ [] (record { name = token (codes "Connection") (omega arith) refl; raw = written is_value_byte (codes " close") refl }) (All-nil IsField)
IsField-close false = All-nil IsField

pub IsResponseHead-head_of : (status size : ℕ) (last : Bool) → IsStatusCode status → size < 2 ^ 64 → IsResponseHead (head_of status size last)
unfolding head_of
IsResponseHead-head_of status size last is small = record {
  minor = omega arith;
  digits = (length-decimal_three status is.0 is.1, all_digits status (omega (arith, is.1)));
  reason = phrase_values status is.1;
  fields =
      All-cons IsField type_field (length_field size ∷ close_fields last) IsField-type
      (All-cons IsField (length_field size) (close_fields last) (IsField-length size small) (IsField-close last));
}

-- the head is written as its lines
print_close : (last : Bool) → flat_map print_field (close_fields last) ≡ close_line last
unfolding close_fields close_line
print_close true = refl
print_close false = refl

print_parts : (digits phrase kind size close : List ℕ)
    → codes "HTTP/1.1" ++ 32 ∷ digits ++ 32 ∷ phrase ++ crlf_bytes ++ (kind ++ (size ++ close) ++ crlf_bytes)
    ≡ (codes "HTTP/1.1 " ++ digits ++ codes " " ++ phrase ++ crlf_bytes) ++ kind ++ size ++ close ++ crlf_bytes
print_parts digits phrase kind size close =
    as_fields (codes "HTTP/1.1") (32 ∷ digits) (32 ∷ phrase) crlf_bytes kind size close
    ∙ sym (as_lines (codes "HTTP/1.1 ") digits (codes " ") phrase crlf_bytes kind size close)
  where
    as_fields : (v d p e t n c : List ℕ) → v ++ d ++ p ++ e ++ (t ++ (n ++ c) ++ e) ≡ v ++ (d ++ (p ++ (e ++ (t ++ (n ++ (c ++ e))))))
    as_fields v d p e t n c = simp append_assoc

    as_lines : (v d s p e t n c : List ℕ) → (v ++ d ++ s ++ p ++ e) ++ t ++ n ++ c ++ e ≡ v ++ (d ++ (s ++ (p ++ (e ++ (t ++ (n ++ (c ++ e)))))))
    as_lines v d s p e t n c = simp append_assoc

pub print_head_of : (status size : ℕ) (last : Bool) → print_response (head_of status size last) ≡ reply_head status size last
unfolding head_of type_field length_field print_response status_line type_line length_line
print_head_of status size last =
    print_parts (decimal status) (phrase_of status) type_line (length_line size) (flat_map print_field (close_fields last))
    ∙ ap (λ (close : List ℕ). status_line status ++ type_line ++ length_line size ++ close ++ crlf_bytes) (print_close last)

-- ---- the lines

text_line : (text : List ℕ) → AllPass is_value_byte text → text ≢ [] → IsTextLine (text ++ crlf_bytes)
text_line text pass some = record {
  text = text ++ 13 ∷ [];
  one_line =
      All-append (λ b. b ≢ 10) text (13 ∷ [])
      (All-weaker (λ b. IsTrue (is_value_byte b)) (λ b. b ≢ 10) (λ b value. grind (arith, nat_tests)) text pass) (other_byte 13 refl);
  not_blank = (no_nil 13 text, no_return 13 text some);
  ends = sym (append_assoc text (13 ∷ []) (10 ∷ []));
}

abbrev status_text : ℕ → List ℕ
status_text status = codes "HTTP/1.1 " ++ decimal status ++ codes " " ++ phrase_of status

abbrev length_text : ℕ → List ℕ
length_text size = codes "Content-Length: " ++ decimal size

IsTextLine-status_line : (status : ℕ) → IsStatusCode status → IsTextLine (status_line status)
unfolding status_line
IsTextLine-status_line status is =
    let digits = digits_are_values (decimal status) (all_digits status (omega (arith, is.1))) in
    let front = both (codes "HTTP/1.1 ") (decimal status) (written is_value_byte (codes "HTTP/1.1 ") refl) digits in
    let spaced = both (codes "HTTP/1.1 " ++ decimal status) (codes " ") front (written is_value_byte (codes " ") refl) in
    text_line (status_text status) (both (codes "HTTP/1.1 " ++ decimal status ++ codes " ") (phrase_of status) spaced (phrase_values status is.1))
    (λ (none : status_text status ≡ []). cc)

IsTextLine-type_line : IsTextLine type_line
unfolding type_line
IsTextLine-type_line =
    text_line (codes "Content-Type: application/json") (written is_value_byte (codes "Content-Type: application/json") refl)
    (λ (none : codes "Content-Type: application/json" ≡ []). cc)

IsTextLine-length_line : (size : ℕ) → size < 2 ^ 64 → IsTextLine (length_line size)
unfolding length_line
IsTextLine-length_line size small =
    let digits = digits_are_values (decimal size) (all_digits size small) in
    text_line (length_text size) (both (codes "Content-Length: ") (decimal size) (written is_value_byte (codes "Content-Length: ") refl) digits)
    (λ (none : length_text size ≡ []). cc)

close_lines : Bool → List (List ℕ)
close_lines true = close_line true ∷ []
close_lines false = []

IsTextLine-close_lines : (last : Bool) → All IsTextLine (close_lines last)
unfolding close_line close_lines
IsTextLine-close_lines true =
    All-cons IsTextLine (close_line true) []
    (text_line (codes "Connection: close") (written is_value_byte (codes "Connection: close") refl) (λ (none : codes "Connection: close" ≡ []). cc))
    (All-nil IsTextLine)
IsTextLine-close_lines false = All-nil IsTextLine

join_close : (last : Bool) → flat_map (λ line. line) (close_lines last) ≡ close_line last
unfolding close_line close_lines
join_close true = refl
join_close false = refl

join_lines : (s t n c e : List ℕ) → s ++ t ++ n ++ c ++ e ≡ s ++ (t ++ (n ++ c)) ++ e
join_lines s t n c e = simp append_assoc

-- how many lines a head of ours has
pub line_count : Bool → ℕ
line_count last = suc (suc (suc (length (close_lines last))))

pub IsHead-reply_head : (status size : ℕ) (last : Bool) → IsStatusCode status → size < 2 ^ 64 → IsHead (reply_head status size last) (line_count last)
unfolding line_count
IsHead-reply_head status size last is small = record {
  blank = [];
  text = status_line status ∷ type_line ∷ length_line size ∷ close_lines last;
  end = crlf_bytes;
  blank_lines = All-nil IsEmptyLine;
  text_lines =
      All-cons IsTextLine (status_line status) (type_line ∷ length_line size ∷ close_lines last) (IsTextLine-status_line status is)
      (All-cons IsTextLine type_line (length_line size ∷ close_lines last) IsTextLine-type_line
      (All-cons IsTextLine (length_line size) (close_lines last) (IsTextLine-length_line size small) (IsTextLine-close_lines last)));
  empty_end = inr refl;
  count = (refl, omega arith);
  joined =
      join_lines (status_line status) type_line (length_line size) (close_line last) crlf_bytes
      ∙ ap (λ (close : List ℕ). status_line status ++ (type_line ++ (length_line size ++ close)) ++ crlf_bytes) (sym (join_close last));
}

-- ---- the size

length-status_line : (status : ℕ) → IsStatusCode status → length (status_line status) < 79
unfolding status_line
length-status_line status is =
    let first : length (codes "HTTP/1.1 ") ≡ 9 = refl in
    let blank : length (codes " ") ≡ 1 = refl in
    let end : length crlf_bytes ≡ 2 = refl in
    omega (
      arith,
      first,
      blank,
      end,
      length-decimal_three status is.0 is.1,
      length-phrase_of status is.1,
      length-append (codes "HTTP/1.1 ") (decimal status),
      length-append (codes "HTTP/1.1 " ++ decimal status) (codes " "),
      length-append (codes "HTTP/1.1 " ++ decimal status ++ codes " ") (phrase_of status),
      length-append (status_text status) crlf_bytes,
    )

length-length_line : (size : ℕ) → size < 2 ^ 64 → length (length_line size) ≤ 38
unfolding length_line
length-length_line size small =
    let first : length (codes "Content-Length: ") ≡ 16 = refl in
    let end : length crlf_bytes ≡ 2 = refl in
    omega (
      arith,
      first,
      end,
      length-decimal-le 20 size (omega arith) (omega (arith, small)) small,
      length-append (codes "Content-Length: ") (decimal size),
      length-append (length_text size) crlf_bytes,
    )

length-type_line : length type_line ≡ 32
unfolding type_line
length-type_line = refl

length-close_line : (last : Bool) → length (close_line last) ≤ 19
unfolding close_line
length-close_line true = omega arith
length-close_line false = omega arith

length-reply_head : (status size : ℕ) (last : Bool) → IsStatusCode status → size < 2 ^ 64 → length (reply_head status size last) ≤ 170
length-reply_head status size last is small =
    let end : length crlf_bytes ≡ 2 = refl in
    omega (
      arith,
      end,
      length-status_line status is,
      length-type_line,
      length-length_line size small,
      length-close_line last,
      length-append (status_line status) type_line,
      length-append (status_line status ++ type_line) (length_line size),
      length-append (status_line status ++ type_line ++ length_line size) (close_line last),
      length-append (status_line status ++ type_line ++ length_line size ++ close_line last) crlf_bytes,
    )

is_short : (n : ℕ) → n ≤ 170 → nat_lt head_limit n ≡ false
unfolding head_limit
is_short n few = le-ltb 16384 n (omega (arith, few))

few_lines : (last : Bool) → nat_lt header_limit (line_count last - 1) ≡ false
unfolding header_limit line_count close_lines
few_lines true = refl
few_lines false = refl

pub is_too_large-reply_head : (status size : ℕ) (last : Bool) → IsStatusCode status → size < 2 ^ 64
    → is_too_large (reply_head status size last) (line_count last) ≡ false
is_too_large-reply_head status size last is small =
    rw (is_short (length (reply_head status size last)) (length-reply_head status size last is small), few_lines last) refl

pub few_fields : (status size : ℕ) (last : Bool) → length (head_of status size last).fields ≤ header_limit
unfolding head_of header_limit close_fields
few_fields status size true = omega arith
few_fields status size false = omega arith

-- ---- what the headers say

pub no_encoding : (status size : ℕ) (last : Bool) → has_transfer_encoding (map field_of (head_of status size last).fields) ≡ false
unfolding head_of type_field length_field close_fields same_name
no_encoding status size true = refl
no_encoding status size false = refl

skip_digits : (digits : List ℕ) → AllPass is_ascii_digit digits → skip_ows digits ≡ digits
skip_digits [] pass = refl
skip_digits (d ∷ digits) pass =
    let first : is_ascii_digit d ≡ true = All-head (λ b. IsTrue (is_ascii_digit b)) d digits pass in
    let other : is_ows d ≡ false = grind (arith, nat_tests) in
    rw other refl

trim_decimal : (n : ℕ) → n < 2 ^ 64 → trim_ows (32 ∷ decimal n) ≡ decimal n
trim_decimal n small =
    let digits = all_digits n small in
    trim_ows_space (decimal n) (skip_digits (decimal n) digits) (skip_digits (reverse (decimal n)) (AllPass-reverse is_ascii_digit (decimal n) digits))

read_decimal : (limit n : ℕ) → n < 2 ^ 64 → n ≤ limit → Fields.length_text limit (decimal n) ≡ Ok n
read_decimal limit n small most =
    let some : nat_lt 0 (length (decimal n)) ≡ true = lt-ltb 0 (length (decimal n)) (decimal_nonempty n small) in
    let inside : nat_lt limit n ≡ false = le-ltb limit n most in
    rw (some, decimal_digits n small, decimal_after-decimal n small, inside) refl

pub reply_length-head_of : (status size : ℕ) (last : Bool) → size < 2 ^ 64 → size ≤ reply_limit
    → reply_length (map field_of (head_of status size last).fields) ≡ Ok size
unfolding head_of type_field length_field close_fields same_name
reply_length-head_of status size true small most = rw (trim_decimal size small) (read_decimal reply_limit size small most)
reply_length-head_of status size false small most = rw (trim_decimal size small) (read_decimal reply_limit size small most)

pub status_code-head_of : (status size : ℕ) (last : Bool) → IsStatusCode status → status_code (head_of status size last) ≡ status
unfolding head_of
status_code-head_of status size last is = (decimal_is_IsNumeral status (omega (arith, is.1))).1
