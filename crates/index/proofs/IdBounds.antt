-- Bounds of bytes between ids.
use Rattle.std.proofs.Common.{Bool, Equal, Greater, Less, List, Ordering, [], ap, arith, cond, false, inl, inr, is_lt, not, refl, subst, sym, true, ℕ, ◌++◌, ◌+◌, ◌/◌, ◌%◌, ◌<◌, ◌∙◌, ◌∷◌, ◌≡◌}
use Rattle.std.proofs.lemmas.Bool.Decides.{nat_tests}
use Rattle.std.proofs.lemmas.Cmp.{nat_list_cmp_total}
use Rattle.index.proofs.Common.{and_parts}
use Rattle.std.specs.Cmp.{alike_right, first_so}
use Rattle.std.specs.Cmp.Lexicographic.{slice_cmp}
use Rattle.std.specs.Ordering.{is_le, nat_cmp, ordering_reverse, ordering_then}
use Rattle.std.specs.Prelude.{IsUtf8, nat_lt, ⊤, ◌&&◌, ◌||◌}
use Rattle.std.specs.Str.{encode_utf8_all}
use Rattle.std.specs.Char.{IsScalar, encode_utf8}
use Rattle.index.specs.inner.Seen.{IsCut}
use Rattle.tables.specs.Listings.{is_between}

-- ---- the order of bytes

turned : (o : Ordering) → is_le (ordering_reverse o) ≡ not (is_lt o)
turned Less = refl
turned Equal = refl
turned Greater = refl

-- some bytes are at most others if and only if the others are not below them
pub at_most : (a b : List ℕ) → is_le (slice_cmp nat_cmp a b) ≡ not (is_lt (slice_cmp nat_cmp b a))
at_most a b = ap is_le (nat_list_cmp_total.antisymm a b) ∙ turned (slice_cmp nat_cmp b a)

-- and the other way round
pub below : (a b : List ℕ) → is_lt (slice_cmp nat_cmp a b) ≡ not (is_le (slice_cmp nat_cmp b a))
below a b = twice (is_lt (slice_cmp nat_cmp a b)) ∙ sym (ap not (at_most b a))
  where
    twice : (t : Bool) → t ≡ not (not t)
    twice true = refl
    twice false = refl

-- nothing is below the bound without a byte
pub none_below : (text : List ℕ) → is_le (slice_cmp nat_cmp [] text) ≡ true
none_below [] = refl
none_below (x ∷ xs) = refl

-- ---- above all texts

abbrev pub small : List ℕ → Type 0
small [] = ⊤
small (x ∷ xs) = x < 255

scalar_small : (c : ℕ) → IsScalar c → c < 1114112
scalar_small c s = grind (arith, nat_tests, s)

lead_of : (c : ℕ) (rest : List ℕ) → IsScalar c → small (encode_utf8 c ++ rest)
unfolding encode_utf8
lead_of c rest s = go (nat_lt c 128) (nat_lt c 2048) (nat_lt c 65536) refl refl refl
  where
    go : (a b d : Bool) → nat_lt c 128 ≡ a → nat_lt c 2048 ≡ b → nat_lt c 65536 ≡ d
        → small (cond a (c ∷ []) (cond b ((192 + c / 64) ∷ (128 + c % 64) ∷ []) (cond d ((224 + c / 4096) ∷ (128 + (c / 64) % 64) ∷ (128 + c % 64) ∷ []) ((240 + c / 262144) ∷ (128 + (c / 4096) % 64) ∷ (128 + (c / 64) % 64) ∷ (128 + c % 64) ∷ []))) ++ rest)
    go true b d p q r = grind (arith, nat_tests, p)
    go false true d p q r = let lt : c < 2048 = grind (arith, nat_tests, q) in omega (arith, lt)
    go false false true p q r = let lt : c < 65536 = grind (arith, nat_tests, r) in omega (arith, lt)
    go false false false p q r = let lt = scalar_small c s in omega (arith, lt)

pub texts_small : (bytes : List ℕ) → IsUtf8 bytes → small bytes
texts_small bytes ([], is) = subst small is.1 tt
texts_small bytes (c ∷ cs, is) = subst small is.1 (lead_of c (encode_utf8_all cs) (first_so _ _ is.0))

-- no text has a byte 255
pub above_texts : (text : List ℕ) → IsUtf8 text → is_lt (slice_cmp nat_cmp text (255 ∷ [])) ≡ true
above_texts [] u = refl
above_texts (x ∷ xs) u =
    let lt : x < 255 = texts_small (x ∷ xs) u in
    let under : nat_cmp x 255 ≡ Less = grind (arith, nat_tests, lt) in
    ap (λ o. is_lt (ordering_then o (slice_cmp nat_cmp xs []))) under

-- ---- a range that is cut

-- the order goes on over bytes between
le_le : (a b c : List ℕ) → is_le (slice_cmp nat_cmp a b) ≡ true → is_le (slice_cmp nat_cmp b c) ≡ true → is_le (slice_cmp nat_cmp a c) ≡ true
le_le a b c first second = by (slice_cmp nat_cmp a b) refl (slice_cmp nat_cmp b c) refl first second
  where
    by : (p : Ordering) → slice_cmp nat_cmp a b ≡ p → (q : Ordering) → slice_cmp nat_cmp b c ≡ q → is_le p ≡ true → is_le q ≡ true → is_le (slice_cmp nat_cmp a c) ≡ true
    by Less x Less y f s = ap is_le (nat_list_cmp_total.trans a b c x y)
    by Less x Equal y f s = ap is_le (sym (alike_right nat_list_cmp_total b c a y) ∙ x)
    by Less x Greater y f s = absurd (cc)
    by Equal x q y f s = ap is_le (nat_list_cmp_total.congr a b c x ∙ y) ∙ s
    by Greater x q y f s = absurd (cc)

lt_lt : (a b c : List ℕ) → is_lt (slice_cmp nat_cmp a b) ≡ true → is_lt (slice_cmp nat_cmp b c) ≡ true → is_lt (slice_cmp nat_cmp a c) ≡ true
lt_lt a b c first second = by (slice_cmp nat_cmp a b) refl (slice_cmp nat_cmp b c) refl first second
  where
    by : (p : Ordering) → slice_cmp nat_cmp a b ≡ p → (q : Ordering) → slice_cmp nat_cmp b c ≡ q → is_lt p ≡ true → is_lt q ≡ true → is_lt (slice_cmp nat_cmp a c) ≡ true
    by Less x Less y f s = ap is_lt (nat_list_cmp_total.trans a b c x y)
    by Less x Equal y f s = absurd (cc)
    by Less x Greater y f s = absurd (cc)
    by Equal x q y f s = absurd (cc)
    by Greater x q y f s = absurd (cc)

-- nothing lies between a bound and itself
pub none_between : (bound i : List ℕ) → is_between bound bound i ≡ false
none_between bound i = ap (λ b. b && is_lt (slice_cmp nat_cmp i bound)) (at_most bound i) ∙ never (is_lt (slice_cmp nat_cmp i bound))
  where
    never : (b : Bool) → (not b && b) ≡ false
    never true = refl
    never false = refl

-- what lies between the bounds lies on one side of the cut
pub cut_there : (low high bound : List ℕ) → IsCut low high bound → (i : List ℕ) → is_between low high i ≡ (is_between low bound i || is_between bound high i)
cut_there low high bound (inr is) i =
    sym ((λ j. is_between low (is j) i || is_between (is j) high i) ∙ ap (λ b. is_between low high i || b) (none_between high i) ∙ or_false (is_between low high i))
  where
    or_false : (b : Bool) → (b || false) ≡ b
    or_false true = refl
    or_false false = refl
cut_there low high bound (inl within) i = by (is_lt (slice_cmp nat_cmp i bound)) refl
  where
    ends : (is_le (slice_cmp nat_cmp low bound) ≡ true) × (is_lt (slice_cmp nat_cmp bound high) ≡ true)
    ends = and_parts (is_le (slice_cmp nat_cmp low bound)) (is_lt (slice_cmp nat_cmp bound high)) within

    first : (l : Bool) → (l && true) ≡ ((l && true) || (false && true))
    first true = refl
    first false = refl

    by : (b : Bool) → is_lt (slice_cmp nat_cmp i bound) ≡ b → is_between low high i ≡ (is_between low bound i || is_between bound high i)
    by true before =
        let under : is_lt (slice_cmp nat_cmp i high) ≡ true = lt_lt i bound high before ends.1 in
        let behind : is_le (slice_cmp nat_cmp bound i) ≡ false = at_most bound i ∙ ap not before in
        let l = is_le (slice_cmp nat_cmp low i) in
        ap (λ b. l && b) under ∙ first l ∙ sym (λ j. (l && before j) || (behind j && under j))
    by false before =
        let behind : is_le (slice_cmp nat_cmp bound i) ≡ true = at_most bound i ∙ ap not before in
        let above : is_le (slice_cmp nat_cmp low i) ≡ true = le_le low bound i ends.0 behind in
        let h = is_lt (slice_cmp nat_cmp i high) in
        ap (λ b. b && h) above ∙ sym (λ j. (above j && before j) || (behind j && h))

-- and on no other
pub cut_apart : (low high bound i : List ℕ) → is_between low bound i ≡ true → is_between bound high i ≡ false
cut_apart low high bound i within =
    ap (λ b. b && is_lt (slice_cmp nat_cmp i high)) (at_most bound i ∙ ap not (and_parts (is_le (slice_cmp nat_cmp low i)) (is_lt (slice_cmp nat_cmp i bound)) within).1)
