-- What `trim_start_matches` and `trim_end_matches` leave of a text, where they cut spaces and tabs.
use Rattle.std.proofs.Common.{◌≡◌, ℕ, ◌-◌, ◌<◌, Bool, true, false, cond, List, [], ◌∷◌, ◌++◌, length, take, drop, reverse, Option, Some, None, IfSome, refl, sym, ◌∙◌, ap, arith}
use Rattle.std.specs.Char.{IsScalar, char_set_contains}
use Rattle.std.specs.Str.Pattern.{HasPassingCharAt, FindsPrefixBy, FindsSuffixBy, CutsPrefixes, CutsSuffixes, IsTrimStartMatches, IsTrimEndMatches}
use Rattle.std.proofs.lemmas.Bool.Decides.{nat_tests}
use Rattle.std.proofs.lemmas.List.{reverse-reverse, reverse-append, take-append-drop, drop_all, length-drop}
use Rattle.std.proofs.lemmas.Str.{encode_ascii}
use Rattle.std.proofs.lemmas.Str.Pattern.{drop_at_char}
use Rattle.auth.specs.Roles.{is_blank, without_leading_blanks, without_trailing_blanks}

-- what a pattern of a space and a tab says of the start of a text, and of its end
abbrev pub AtStart : List ℕ → Option ℕ → Type 0
AtStart s r = (k : ℕ → Bool) → ((c : ℕ) → char_set_contains (32 ∷ 9 ∷ []) c ≡ k c) → FindsPrefixBy k s r

abbrev pub AtEnd : List ℕ → Option ℕ → Type 0
AtEnd s r = (k : ℕ → Bool) → ((c : ℕ) → char_set_contains (32 ∷ 9 ∷ []) c ≡ k c) → FindsSuffixBy k s r

char_set_contains-blanks : (c : ℕ) → char_set_contains (32 ∷ 9 ∷ []) c ≡ is_blank c
char_set_contains-blanks c = grind (arith, nat_tests)

blank_is_ascii : (c : ℕ) → is_blank c ≡ true → c < 128
blank_is_ascii c h = grind (arith, nat_tests)

IsScalar-blank : (c : ℕ) → is_blank c ≡ true → IsScalar c
IsScalar-blank c h = grind (arith, nat_tests)

-- what is false where it is true is false
false_if_true : (b : Bool) → (b ≡ true → b ≡ false) → b ≡ false
false_if_true true h = h refl
false_if_true false h = refl

leading-blank : (b : ℕ) (bs : List ℕ) → is_blank b ≡ true → without_leading_blanks (b ∷ bs) ≡ without_leading_blanks bs
leading-blank b bs h = ap (λ t. cond t (without_leading_blanks bs) (b ∷ bs)) h

leading-other : (b : ℕ) (bs : List ℕ) → is_blank b ≡ false → without_leading_blanks (b ∷ bs) ≡ b ∷ bs
leading-other b bs h = ap (λ t. cond t (without_leading_blanks bs) (b ∷ bs)) h

trailing-blank : (xs : List ℕ) (b : ℕ) → is_blank b ≡ true → without_trailing_blanks (xs ++ b ∷ []) ≡ without_trailing_blanks xs
trailing-blank xs b h =
    ap reverse (ap without_leading_blanks (reverse-append xs (b ∷ [])) ∙ leading-blank b (reverse xs) h)

-- a cut at the start takes blanks alone
cut_at_start : (s : List ℕ) (n : ℕ) → HasPassingCharAt is_blank s 0 n → without_leading_blanks s ≡ without_leading_blanks (drop n s)
cut_at_start s n h =
    ap without_leading_blanks (drop_at_char h.0 s 0 n h.2 (blank_is_ascii h.0 h.1)) ∙ leading-blank h.0 (drop n s) h.1

cuts_at_start : (ns s r : List ℕ) → CutsPrefixes AtStart s ns r → without_leading_blanks r ≡ without_leading_blanks s
cuts_at_start [] s r h = ap without_leading_blanks h
cuts_at_start (n ∷ ns) s r h =
    ap without_leading_blanks h.3 ∙ (sym (cut_at_start h.0 n (h.2 is_blank char_set_contains-blanks))
    ∙ cuts_at_start ns s h.0 h.1)

-- where no blank can be cut, none stands at the start
nothing_at_start : (s : List ℕ) (o : Option ℕ) → AtStart s o → IfSome o (λ n. n ≡ 0) → without_leading_blanks s ≡ s
nothing_at_start [] o h z = refl
nothing_at_start (b ∷ bs) None h z =
    leading-other b bs (false_if_true (is_blank b) (λ e. h is_blank char_set_contains-blanks b bs (IsScalar-blank b e)
    (ap (λ x. x ++ bs) (sym (encode_ascii b (blank_is_ascii b e))))))
nothing_at_start (b ∷ bs) (Some n) h z =
    let w = h is_blank char_set_contains-blanks in
    let e = ap length (drop_at_char w.0 (b ∷ bs) 0 n w.2 (blank_is_ascii w.0 w.1)) in
    absurd (omega (arith, e, length-drop 0 (b ∷ bs), length-drop n (b ∷ bs)))

pub trim_start_is : (s r : List ℕ) → IsTrimStartMatches AtStart s r → r ≡ without_leading_blanks s
trim_start_is s r h = sym (nothing_at_start r h.1.0 h.1.1 h.1.2) ∙ cuts_at_start h.0.0 s r h.0.1

-- a text that ends with a blank, as what stands before it and the blank
blank_at_end : (s : List ℕ) (n : ℕ) → (w : HasPassingCharAt is_blank s (length s - n) (length s)) → s ≡ take (length s - n) s ++ w.0 ∷ []
blank_at_end s n w =
    let whole = take-append-drop (length s - n) s in
    let last = drop_at_char w.0 s (length s - n) (length s) w.2 (blank_is_ascii w.0 w.1) in
    let none : drop (length s) s ≡ [] = drop_all (length s) s (omega arith) in
    sym whole ∙ ap (λ t. take (length s - n) s ++ t) (last ∙ ap (λ t. w.0 ∷ t) none)

cut_at_end : (s : List ℕ) (n : ℕ) → HasPassingCharAt is_blank s (length s - n) (length s) → without_trailing_blanks s ≡ without_trailing_blanks (take (length s - n) s)
cut_at_end s n w =
    ap without_trailing_blanks (blank_at_end s n w) ∙ trailing-blank (take (length s - n) s) w.0 w.1

cuts_at_end : (ns s r : List ℕ) → CutsSuffixes AtEnd s ns r → without_trailing_blanks r ≡ without_trailing_blanks s
cuts_at_end [] s r h = ap without_trailing_blanks h
cuts_at_end (n ∷ ns) s r h =
    ap without_trailing_blanks h.3 ∙ (sym (cut_at_end h.0 n (h.2 is_blank char_set_contains-blanks))
    ∙ cuts_at_end ns s h.0 h.1)

-- where no blank can be cut, none stands at the end
nothing_at_end : (s backwards : List ℕ) (o : Option ℕ) → reverse s ≡ backwards → AtEnd s o → IfSome o (λ n. n ≡ 0) → without_leading_blanks backwards ≡ backwards
nothing_at_end s [] o is h z = refl
nothing_at_end s (b ∷ bs) None is h z =
    let split = sym (reverse-reverse s) ∙ (ap reverse is ∙ reverse-append (b ∷ []) bs) in
    leading-other b bs (false_if_true (is_blank b) (λ e. h is_blank char_set_contains-blanks b (reverse bs) (IsScalar-blank b e)
    (split ∙ ap (λ x. reverse bs ++ x) (sym (encode_ascii b (blank_is_ascii b e))))))
nothing_at_end s (b ∷ bs) (Some n) is h z =
    let w = h is_blank char_set_contains-blanks in
    let e = ap length (drop_at_char w.0 s (length s - n) (length s) w.2 (blank_is_ascii w.0 w.1)) in
    absurd (omega (arith, e, length-drop (length s - n) s, length-drop (length s) s))

pub trim_end_is : (s r : List ℕ) → IsTrimEndMatches AtEnd s r → r ≡ without_trailing_blanks s
trim_end_is s r h =
    let same = ap reverse (nothing_at_end r (reverse r) h.1.0 refl h.1.1 h.1.2) in
    sym (same ∙ reverse-reverse r) ∙ cuts_at_end h.0.0 s r h.0.1
