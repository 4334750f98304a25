-- The key of a text goes run by run: each byte 0 ends a run.
use Rattle.std.proofs.Common.{◌≡◌, ◌<◌, ◌+◌, ◌-◌, ◌==◌, ℕ, suc, Bool, true, false, cond, not, List, [], ◌∷◌, ◌++◌, Some, None, length, take, drop, refl, sym, ap, ap₂, subst, ◌∙◌, arith}
use Rattle.std.proofs.lemmas.Bool.Decides.{nat_tests}
use Rattle.std.proofs.lemmas.List.{length-drop, take_all}
use Rattle.std.specs.Prelude.{nat_lt}
use Rattle.std.specs.List.{after_first, before_first, position, position_or_len}
use Rattle.couch_json.specs.Key.{text_key}

abbrev pub is_zero : ℕ → Bool
is_zero byte = byte == 0

-- a text without a byte 0 is one run
pub text_key-run : (bytes : List ℕ) → (position_or_len is_zero bytes < length bytes → ⊥) → text_key bytes ≡ bytes ++ 0 ∷ 0 ∷ []
text_key-run [] none = refl
text_key-run (b ∷ bs) none = by (text_key-run bs) (is_zero b) refl
  where
    by : ((position_or_len is_zero bs < length bs → ⊥) → text_key bs ≡ bs ++ 0 ∷ 0 ∷ []) → (z : Bool) → is_zero b ≡ z → text_key (b ∷ bs) ≡ (b ∷ bs) ++ 0 ∷ 0 ∷ []
    by later true is = absurd (none (rw is (omega arith)))
    by later false is = rw is (ap (λ key. b ∷ key) (later (λ h. none (rw is (omega (arith, h))))))

-- else its first run ends at the first one
pub text_key-split : (bytes : List ℕ) → position_or_len is_zero bytes < length bytes → text_key bytes ≡ before_first is_zero bytes ++ 0 ∷ 255 ∷ text_key (after_first is_zero bytes)
text_key-split [] within = absurd (omega (arith, within))
text_key-split (b ∷ bs) within = by (text_key-split bs) (is_zero b) refl
  where
    by : (position_or_len is_zero bs < length bs → text_key bs ≡ before_first is_zero bs ++ 0 ∷ 255 ∷ text_key (after_first is_zero bs)) → (z : Bool) → is_zero b ≡ z
        → text_key (b ∷ bs) ≡ before_first is_zero (b ∷ bs) ++ 0 ∷ 255 ∷ text_key (after_first is_zero (b ∷ bs))
    by later true is = rw is refl
    by later false is =
        let p = position_or_len is_zero bs in
        let one : suc p ≡ 1 + p = omega arith in
        let two : suc (p + 1) ≡ 1 + p + 1 = omega arith in
        rw is (ap (λ key. b ∷ key) (later (let h : 1 + position_or_len is_zero bs < suc (length bs) = subst (λ z. cond (not z) (1 + position_or_len is_zero bs) 0 < suc (length bs)) is within in omega (arith, h)))
        ∙ ap₂ (λ m n. take m (b ∷ bs) ++ 0 ∷ 255 ∷ text_key (drop n (b ∷ bs))) one two)

-- ---- by the place of the first byte 0

is_less : (m n : ℕ) (b : Bool) → nat_lt m n ≡ b → b ≡ true → m < n
is_less m n b is h = grind (arith, nat_tests, is, h)

pub without_zero : (bytes : List ℕ) → position is_zero bytes ≡ None → text_key bytes ≡ bytes ++ 0 ∷ 0 ∷ []
without_zero bytes none = text_key-run bytes (λ h. by (nat_lt (position_or_len is_zero bytes) (length bytes)) refl none h)
  where
    by : (b : Bool) → nat_lt (position_or_len is_zero bytes) (length bytes) ≡ b → cond b (Some (position_or_len is_zero bytes)) None ≡ None → position_or_len is_zero bytes < length bytes → ⊥
    by true is e h = cc
    by false is e h = grind (arith, nat_tests, is, h)

pub at_zero : (bytes : List ℕ) (n : ℕ) → position is_zero bytes ≡ Some n → text_key bytes ≡ take n bytes ++ 0 ∷ 255 ∷ text_key (take (length bytes - (n + 1)) (drop (n + 1) bytes))
at_zero bytes n found = by (nat_lt (position_or_len is_zero bytes) (length bytes)) refl found
  where
    by : (b : Bool) → nat_lt (position_or_len is_zero bytes) (length bytes) ≡ b → cond b (Some (position_or_len is_zero bytes)) None ≡ Some n
        → text_key bytes ≡ take n bytes ++ 0 ∷ 255 ∷ text_key (take (length bytes - (n + 1)) (drop (n + 1) bytes))
    by true is e =
        let place : position_or_len is_zero bytes ≡ n = cc in
        let whole : take (length bytes - (n + 1)) (drop (n + 1) bytes) ≡ drop (n + 1) bytes = take_all (length bytes - (n + 1)) (drop (n + 1) bytes) (omega (arith, length-drop (n + 1) bytes)) in
        text_key-split bytes (is_less _ _ _ is refl) ∙ ap (λ m. take m bytes ++ 0 ∷ 255 ∷ text_key (drop (m + 1) bytes)) place
        ∙ ap (λ rest. take n bytes ++ 0 ∷ 255 ∷ text_key rest) (sym whole)
    by false is e = absurd cc
