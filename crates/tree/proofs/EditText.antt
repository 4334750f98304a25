-- The text of an edit: a hash stands in it as it is, and hexadecimal digits make a hash.
use Rattle.std.proofs.Common.{◌≡◌, ℕ, zero, suc, ◌/◌, ◌%◌, ◌<◌, Bool, true, false, cond, eqb, ltb, List, [], ◌∷◌, ◌++◌, length, refl, sym, ap, ◌∙◌, arith, le-leb, append_assoc}
use Rattle.std.proofs.lemmas.Bool.Decides.{nat_tests}
use Rattle.std.specs.Prelude.{slice_index}
use Rattle.std.specs.List.{list_all}
use Rattle.std.specs.Char.{is_ascii_alphanumeric}
use Rattle.json.specs.Print.{escape, escape_byte}
use Rattle.hex.specs.Hex.{encode_with, encode_lower, lower_digits, IsBytes}
use Rattle.hex.proofs.HexLemmas.{length-encode_with}
use Rattle.std.specs.Fmt.{decimal}
use Rattle.std.specs.Str.Parse.{true_text, false_text}
use Rattle.couch_json.specs.Value.{Value, truth}
use Rattle.couch_json.specs.Canonical.{canonical}
use Rattle.tree.specs.NextRevision.{hashed_edit}
use Rattle.tree.specs.Revision.{is_hash}
use Rattle.tree.proofs.RevisionText.{parts}

plain_byte : (x : ℕ) → is_ascii_alphanumeric x ≡ true → escape_byte x ≡ x ∷ []
unfolding escape_byte
plain_byte x h =
    let a : eqb x 34 ≡ false = grind (arith, nat_tests) in
    let b : eqb x 92 ≡ false = grind (arith, nat_tests) in
    let c : eqb x 8 ≡ false = grind (arith, nat_tests) in
    let d : eqb x 12 ≡ false = grind (arith, nat_tests) in
    let e : eqb x 10 ≡ false = grind (arith, nat_tests) in
    let f : eqb x 13 ≡ false = grind (arith, nat_tests) in
    let g : eqb x 9 ≡ false = grind (arith, nat_tests) in
    let low : ltb x 32 ≡ false = grind (arith, nat_tests) in
    simp (a, b, c, d, e, f, g, low)

pub escape-plain : (bs : List ℕ) → list_all is_ascii_alphanumeric bs ≡ true → escape bs ≡ bs
escape-plain [] h = refl
escape-plain (b ∷ bs) h =
    let p = parts _ _ h in
    ap (λ (xs : List ℕ). xs ++ escape bs) (plain_byte b p.0) ∙ ap (λ (xs : List ℕ). b ∷ xs) (escape-plain bs p.1)

at_all : (p : ℕ → Bool) (xs : List ℕ) (n : ℕ) → list_all p xs ≡ true → n < length xs → p (slice_index xs n) ≡ true
at_all p [] n h lt = absurd (omega arith)
at_all p (x ∷ xs) zero h lt = (parts _ _ h).0
at_all p (x ∷ xs) (suc n) h lt = at_all p xs n (parts _ _ h).1 (omega arith)

digit_plain : (n : ℕ) → n < 16 → is_ascii_alphanumeric (slice_index lower_digits n) ≡ true
digit_plain n h = at_all is_ascii_alphanumeric lower_digits n refl h

digits_plain : (bs : List ℕ) → IsBytes bs → list_all is_ascii_alphanumeric (encode_lower bs) ≡ true
unfolding encode_with
digits_plain [] h = refl
digits_plain (b ∷ bs) h =
    let low : b < 256 = h zero in
    let first = digit_plain (b / 16) (omega arith) in
    let second = digit_plain (b % 16) (omega arith) in
    rw (first, second) (digits_plain bs (λ i. h (suc i)))

pub hash_of_bytes : (bs : List ℕ) → length bs ≡ 16 → IsBytes bs → is_hash (encode_lower bs) ≡ true
hash_of_bytes bs n h =
    let len : length (encode_lower bs) ≡ 32 = omega (arith, length-encode_with lower_digits bs) in
    let low = le-leb 1 (length (encode_lower bs)) (omega arith) in
    let high = le-leb (length (encode_lower bs)) 64 (omega arith) in
    rw (low, high, digits_plain bs h) refl

-- ---- the canonical text of an edit, piece by piece

regrouped : (a b c d z : List ℕ) → a ++ (44 ∷ (b ++ (44 ∷ 34 ∷ (c ++ (34 ∷ 44 ∷ (d ++ z)))))) ≡ (a ++ (44 ∷ (b ++ (44 ∷ 34 ∷ ((c ++ 34 ∷ []) ++ (44 ∷ d)))))) ++ z
regrouped a b c d z = simp append_assoc

truth_text : (b : Bool) → cond b true_text false_text ≡ canonical (truth b)
truth_text true = refl
truth_text false = refl

pub edit_pieces : (n : ℕ) (hash : List ℕ) (deleted : Bool) (body : Value) → list_all is_ascii_alphanumeric hash ≡ true
    → 91 ∷ (cond deleted true_text false_text ++ (44 ∷ (decimal n ++ (44 ∷ 34 ∷ (hash ++ (34 ∷ 44 ∷ (canonical body ++ 93 ∷ []))))))) ≡ canonical (hashed_edit n hash deleted body)
edit_pieces n hash deleted body h =
    ap (λ (rest : List ℕ). 91 ∷ rest)
    (regrouped (cond deleted true_text false_text) (decimal n) hash (canonical body) (93 ∷ [])
    ∙ (λ i. (truth_text deleted i ++ (44 ∷ (decimal n ++ (44 ∷ 34 ∷ ((sym (escape-plain hash h) i ++ 34 ∷ []) ++ (44 ∷ canonical body)))))) ++ 93 ∷ []))
