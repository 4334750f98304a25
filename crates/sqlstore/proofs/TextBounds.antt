-- Bounds of bytes behind a text, and above all texts.
use Rattle.std.proofs.Common.{Equal, Greater, Less, List, Ordering, [], ap, arith, false, is_lt, not, refl, true, ℕ, ◌++◌, ◌∙◌, ◌∷◌, ◌≡◌}
use Rattle.std.proofs.lemmas.Bool.Decides.{nat_tests}
use Rattle.std.specs.Cmp.Lexicographic.{slice_cmp}
use Rattle.std.specs.Ordering.{is_le, nat_cmp, ordering_then}
use Rattle.std.specs.Prelude.{IsUtf8}
use Rattle.index.proofs.IdBounds.{above_texts as under_bytes, at_most}

-- ---- behind a text

none_behind : (o : Ordering) (xs : List ℕ) → is_le o ≡ true → is_le (ordering_then o (slice_cmp nat_cmp [] xs)) ≡ true
none_behind Less xs h = refl
none_behind Equal [] h = refl
none_behind Equal (x ∷ xs) h = refl
none_behind Greater xs h = h

zero_least : (x : ℕ) → is_le (nat_cmp 0 x) ≡ true
zero_least x = grind (arith, nat_tests)

alike : (o p q : Ordering) → is_le p ≡ is_lt q → is_le (ordering_then o p) ≡ is_lt (ordering_then o q)
alike Less p q h = refl
alike Equal p q h = h
alike Greater p q h = refl

-- what is not below a text with a byte 0 behind it is above the text
pub behind : (e text : List ℕ) → is_le (slice_cmp nat_cmp (e ++ 0 ∷ []) text) ≡ is_lt (slice_cmp nat_cmp e text)
behind [] [] = refl
behind [] (x ∷ xs) = none_behind (nat_cmp 0 x) xs (zero_least x)
behind (e ∷ es) [] = refl
behind (e ∷ es) (x ∷ xs) = alike (nat_cmp e x) (slice_cmp nat_cmp (es ++ 0 ∷ []) xs) (slice_cmp nat_cmp es xs) (behind es xs)

-- ---- above all texts

-- no text has a byte 255
pub above_texts : (text : List ℕ) → IsUtf8 text → is_le (slice_cmp nat_cmp (255 ∷ []) text) ≡ false
above_texts text u = at_most (255 ∷ []) text ∙ ap not (under_bytes text u)
