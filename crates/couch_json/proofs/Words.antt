-- A word of json's lexer that is a token has no quote and no backslash up to its end.
use Rattle.std.proofs.Common.{◌≡◌, ℕ, ◌+◌, ◌==◌, ◌||◌, ◌&&◌, List, [], ◌∷◌, ◌++◌, length, take, drop, ◌⊎◌, Bool, true, false, not, cond, nat_le, Option, Some, None, option_and_then, refl, sym, ap, ◌∙◌, subst, arith, inl, inr, ne_eqb}
use Rattle.std.proofs.lemmas.Bool.{false≢true, eqb-true, leb-true, and_parts, or_cases}
use Rattle.std.proofs.lemmas.List.{take-append-drop}
use Rattle.std.proofs.lemmas.Slice.Eq.{bytes_eq-Decides}
use Rattle.std.specs.Prelude.{⊤, suc}
use Rattle.std.specs.List.{prefix_len}
use Rattle.std.specs.Char.{is_ascii_digit}
use Rattle.json.specs.Align.{is_good}
use Rattle.json.specs.Token.{Token, begin_object, end_object, begin_array, end_array, key, string, number, boolean, null, bad}
use Rattle.json.specs.Word.{is_operator, is_space, head, ends_word, after_digits, after_minus, after_sign, after_whole, after_fraction, after_exponent, after_number, number_before, literal, word}

-- neither a quote nor a backslash
abbrev pub NoMark : ℕ → Type 0
NoMark x = ((x == 34) ≡ false) × ((x == 92) ≡ false)

-- the bytes up to the end of the word have no mark
abbrev pub clean : List ℕ → Bool
clean [] = true
clean (x ∷ xs) = cond (is_operator x || is_space x) true (not (x == 34) && not (x == 92) && clean xs)

either_true : (b c : Bool) → c ≡ true → cond b true c ≡ true
either_true true c h = refl
either_true false c h = h

pub clean-ended : (t : List ℕ) → ends_word t ≡ true → clean t ≡ true
clean-ended [] h = refl
clean-ended (x ∷ xs) h = rw h

clean-byte : (x : ℕ) (xs : List ℕ) → NoMark x → clean xs ≡ true → clean (x ∷ xs) ≡ true
clean-byte x xs no_mark h = either_true (is_operator x || is_space x) _ (rw (no_mark.0, no_mark.1, h))

pub clean-rest : (x : ℕ) (xs : List ℕ) → NoMark x → is_operator x ≡ false → is_space x ≡ false → clean (x ∷ xs) ≡ true → clean xs ≡ true
clean-rest x xs no_mark no_operator no_space h = let e : clean (x ∷ xs) ≡ clean xs = rw (no_operator, no_space, no_mark.0, no_mark.1) in sym e ∙ h

pub not_clean : (c x : ℕ) (xs : List ℕ) → clean (c ∷ xs) ≡ false → (x == c) ≡ true → clean (x ∷ xs) ≡ true → ⊥
not_clean c x xs never is h = false≢true (sym never ∙ ap (λ y. clean (y ∷ xs)) (sym (eqb-true x c is)) ∙ h)

-- ---- digits

NoMark-digit : (x : ℕ) → is_ascii_digit x ≡ true → NoMark x
NoMark-digit x h =
    let low = leb-true 48 x (and_parts (nat_le 48 x) (nat_le x 57) h).0 in
    let high = leb-true x 57 (and_parts (nat_le 48 x) (nat_le x 57) h).1 in
    (ne_eqb x 34 (λ e. omega arith), ne_eqb x 92 (λ e. omega arith))

clean-first_digit : (x : ℕ) (xs : List ℕ) (n : ℕ) (digit : Bool) → is_ascii_digit x ≡ digit → (clean (drop n xs) ≡ true → clean xs ≡ true)
    → clean (drop (cond digit (1 + n) 0) (x ∷ xs)) ≡ true → clean (x ∷ xs) ≡ true
clean-first_digit x xs n false is more h = h
clean-first_digit x xs n true is more h = let e : 1 + n ≡ suc n = omega arith in clean-byte x xs (NoMark-digit x is) (more (ap (λ k. clean (drop k (x ∷ xs))) (sym e) ∙ h))

clean-digits : (t : List ℕ) → clean (drop (prefix_len is_ascii_digit t) t) ≡ true → clean t ≡ true
clean-digits [] h = refl
clean-digits (x ∷ xs) h = clean-first_digit x xs (prefix_len is_ascii_digit xs) (is_ascii_digit x) refl (clean-digits xs) h

-- ---- the parts of a number: where what follows a part is clean, so is the part with what follows

abbrev Leads : List ℕ → List ℕ → Type 0
Leads rest t = clean rest ≡ true → clean t ≡ true

abbrev LeadsIf : Option (List ℕ) → List ℕ → Type 0
LeadsIf None t = ⊤
LeadsIf (Some rest) t = Leads rest t

choice : (b : Bool) (o p : Option (List ℕ)) (t : List ℕ) → (b ≡ true → LeadsIf o t) → LeadsIf p t → LeadsIf (cond b o p) t
choice true o p t chosen other = chosen refl
choice false o p t chosen other = other

before : (o : Option (List ℕ)) (u t : List ℕ) → LeadsIf o u → Leads u t → LeadsIf o t
before None u t later now = tt
before (Some rest) u t later now = λ h. now (later h)

then : (f : List ℕ → Option (List ℕ)) → ((u : List ℕ) → LeadsIf (f u) u) → (o : Option (List ℕ)) (t : List ℕ) → LeadsIf o t → LeadsIf (option_and_then f o) t
then f later None t now = tt
then f later (Some u) t now = before (f u) u t (later u) now

skipped : (b : Bool) (t : List ℕ) → (b ≡ true → Leads (drop 1 t) t) → Leads (cond b (drop 1 t) t) t
skipped true t one h = one refl h
skipped false t one h = h

one_byte : (c : ℕ) (t : List ℕ) → NoMark c → (head t == c) ≡ true → Leads (drop 1 t) t
one_byte c [] no_mark is h = refl
one_byte c (x ∷ xs) no_mark is h = clean-byte x xs (subst NoMark (sym (eqb-true x c is)) no_mark) h

one_of : (c d : ℕ) (t : List ℕ) → NoMark c → NoMark d → ((head t == c) ≡ true) ⊎ ((head t == d) ≡ true) → Leads (drop 1 t) t
one_of c d t first second (inl is) = one_byte c t first is
one_of c d t first second (inr is) = one_byte d t second is

after_digits_leads : (t : List ℕ) → LeadsIf (after_digits t) t
after_digits_leads t = choice (prefix_len is_ascii_digit t == 0) None _ t (λ e. tt) (clean-digits t)

after_whole_leads : (t : List ℕ) → LeadsIf (after_whole t) t
after_whole_leads t = choice (head t == 48) (Some (drop 1 t)) (after_digits t) t (one_byte 48 t (refl, refl)) (after_digits_leads t)

after_fraction_leads : (t : List ℕ) → LeadsIf (after_fraction t) t
after_fraction_leads t = choice (head t == 46) (after_digits (drop 1 t)) (Some t) t (λ e. before _ (drop 1 t) t (after_digits_leads (drop 1 t)) (one_byte 46 t (refl, refl) e)) (λ h. h)

after_exponent_leads : (t : List ℕ) → LeadsIf (after_exponent t) t
after_exponent_leads t =
    let u = drop 1 t in
    choice ((head t == 101) || (head t == 69)) (after_digits (after_sign u)) (Some t) t
    (λ e. before _ (after_sign u) t (after_digits_leads (after_sign u))
    (λ h. one_of 101 69 t (refl, refl) (refl, refl) (or_cases _ _ e) (skipped ((head u == 45) || (head u == 43)) u (λ s. one_of 45 43 u (refl, refl) (refl, refl) (or_cases _ _ s)) h))) (λ h. h)

after_number_leads : (t : List ℕ) → LeadsIf (after_number t) t
unfolding after_number
after_number_leads t =
    then after_exponent after_exponent_leads _ t (then after_fraction after_fraction_leads _ t
    (before _ (after_minus t) t (after_whole_leads (after_minus t)) (skipped (head t == 45) t (one_byte 45 t (refl, refl)))))

-- ---- the word

good_choice : (b : Bool) (k : Token) → is_good (cond b k bad) ≡ true → b ≡ true
good_choice true k h = refl
good_choice false k h = h

clean-number : (t : List ℕ) (o : Option (List ℕ)) → LeadsIf o t → is_good (number_before t o) ≡ true → clean t ≡ true
clean-number t None leads h = absurd (false≢true h)
clean-number t (Some rest) leads h = leads (clean-ended rest (good_choice (ends_word rest) _ h))

clean-literal : (name : List ℕ) (k : Token) (t : List ℕ) → ((rest : List ℕ) → clean (name ++ rest) ≡ clean rest) → is_good (literal name k t) ≡ true → clean t ≡ true
clean-literal name k t letters h =
    let both = and_parts _ _ (good_choice _ k h) in
    let rest = drop (length name) t in
    let front : name ≡ take (length name) t = (bytes_eq-Decides name (take (length name) t)).0 both.0 in
    ap clean (sym (take-append-drop (length name) t) ∙ ap (λ l. l ++ rest) (sym front)) ∙ letters rest ∙ clean-ended rest both.1

either_word : (b : Bool) (k l : Token) (P : Type 0) → (is_good k ≡ true → P) → (is_good l ≡ true → P) → is_good (cond b k l) ≡ true → P
either_word true k l P f g = f
either_word false k l P f g = g

pub clean-word : (t : List ℕ) → is_good (word t) ≡ true → clean t ≡ true
unfolding word
clean-word t =
    either_word (head t == 116) _ _ _ (clean-literal (116 ∷ 114 ∷ 117 ∷ 101 ∷ []) (boolean true) t (λ r. refl))
    (either_word (head t == 102) _ _ _ (clean-literal (102 ∷ 97 ∷ 108 ∷ 115 ∷ 101 ∷ []) (boolean false) t (λ r. refl))
    (either_word (head t == 110) _ _ _ (clean-literal (110 ∷ 117 ∷ 108 ∷ 108 ∷ []) null t (λ r. refl)) (clean-number t (after_number t) (after_number_leads t))))

-- a word is a number, a literal or bad: it opens and closes nothing
abbrev pub IsWord : Token → Type 0
IsWord begin_object = ⊥
IsWord end_object = ⊥
IsWord begin_array = ⊥
IsWord end_array = ⊥
IsWord (key s) = ⊥
IsWord (string s) = ⊥
IsWord (number s) = ⊤
IsWord (boolean b) = ⊤
IsWord null = ⊤
IsWord bad = ⊤

IsWord-cond : (b : Bool) (k l : Token) → IsWord k → IsWord l → IsWord (cond b k l)
IsWord-cond true k l p q = p
IsWord-cond false k l p q = q

IsWord-number_before : (t : List ℕ) (o : Option (List ℕ)) → IsWord (number_before t o)
IsWord-number_before t None = tt
IsWord-number_before t (Some rest) = IsWord-cond (ends_word rest) _ bad tt tt

pub IsWord-word : (t : List ℕ) → IsWord (word t)
unfolding word
IsWord-word t =
    IsWord-cond (head t == 116) _ _ (IsWord-cond _ (boolean true) bad tt tt) (IsWord-cond (head t == 102) _ _ (IsWord-cond _ (boolean false) bad tt tt)
    (IsWord-cond (head t == 110) _ _ (IsWord-cond _ null bad tt tt) (IsWord-number_before t (after_number t))))

-- ---- the six operators

last_of : (P : ℕ → Type 0) (x c : ℕ) (b : Bool) → P c → (b ≡ true → P x) → (b ≡ true) ⊎ ((x == c) ≡ true) → P x
last_of P x c b here others (inl e) = others e
last_of P x c b here others (inr e) = subst P (sym (eqb-true x c e)) here

pub operators : (P : ℕ → Type 0) → P 123 → P 125 → P 91 → P 93 → P 58 → P 44 → (x : ℕ) → is_operator x ≡ true → P x
operators P brace_in brace_out bracket_in bracket_out colon comma x h =
    last_of P x 44 _ comma (λ h. last_of P x 58 _ colon (λ h. last_of P x 93 _ bracket_out (λ h. last_of P x 91 _ bracket_in (λ h. last_of P x 125 _ brace_out (λ h. subst P (sym (eqb-true x 123 h)) brace_in)
    (or_cases _ _ h)) (or_cases _ _ h)) (or_cases _ _ h)) (or_cases _ _ h)) (or_cases _ _ h)
