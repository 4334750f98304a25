-- How many brackets are open, counted over the bytes of a text and over its tokens: where no token is bad, both pass the limit or neither does.
use Rattle.std.proofs.Common.{◌≡◌, ℕ, ◌+◌, ◌-◌, ◌≤◌, ◌==◌, ◌||◌, List, [], ◌∷◌, Bool, true, false, cond, Option, Some, None, nat_lt, refl, sym, ap, ◌∙◌, arith}
use Rattle.std.proofs.lemmas.Bool.{false≢true, eqb-true, or_parts, ltb-false, le-ltb}
use Rattle.std.specs.Prelude.{⊤}
use Rattle.std.specs.List.{list_any}
use Rattle.json.specs.Align.{is_good}
use Rattle.json.specs.Text.{content, plain}
use Rattle.json.specs.Token.{Token, begin_object, end_object, begin_array, end_array, key, string, number, boolean, null, bad}
use Rattle.json.specs.Word.{is_operator, is_space, word}
use Rattle.json.specs.Lex.{Lexeme, token, comma, colon, string_token, Class, quote, backslash, operator, space, other, class, Mode, between, in_word, in_string, in_escape, operator_lexeme, lex_byte, lex, Place, fresh, after_value, after_comma, after_key, may_begin, may_close, begins_colon, if_allowed, place_token, punctuate, tokens}
use Rattle.couch_json.specs.Nesting.{open_counts, max_open, nests_too_deep}
use Rattle.couch_json.proofs.Words.{NoMark, clean, clean-word, clean-rest, not_clean, IsWord, IsWord-word, operators}
use Rattle.couch_json.specs.declared.nesting.Place as ours
use Rattle.couch_json.specs.declared.nesting.Place.TheVariants.{Outside, Inside, Escaped}

-- how many are open after the token
abbrev pub change : Token → ℕ → ℕ
change begin_object k = k + 1
change end_object k = k - 1
change begin_array k = k + 1
change end_array k = k - 1
change (key s) k = k
change (string s) k = k
change (number s) k = k
change (boolean b) k = k
change null k = k
change bad k = k

-- somewhere more than the most are open
abbrev pub passes : ℕ → List Token → Bool
passes k [] = false
passes k (t ∷ ts) = nat_lt max_open (change t k) || passes (change t k) ts

abbrev pub NoBad : List Token → Type 0
NoBad [] = ⊤
NoBad (t ∷ ts) = (is_good t ≡ true) × NoBad ts

abbrev passes_lexemes : ℕ → List Lexeme → Bool
passes_lexemes k [] = false
passes_lexemes k (token t ∷ ls) = nat_lt max_open (change t k) || passes_lexemes (change t k) ls
passes_lexemes k (comma ∷ ls) = passes_lexemes k ls
passes_lexemes k (colon ∷ ls) = passes_lexemes k ls

abbrev AllGood : List Lexeme → Type 0
AllGood [] = ⊤
AllGood (token t ∷ ls) = (is_good t ≡ true) × AllGood ls
AllGood (comma ∷ ls) = AllGood ls
AllGood (colon ∷ ls) = AllGood ls

abbrev passes_bytes : ours.Place → ℕ → List ℕ → Bool
passes_bytes p k bytes = list_any (nat_lt max_open) (open_counts p k bytes)

pub not_passed : (k : ℕ) (b : Bool) → k ≤ max_open → (nat_lt max_open k || b) ≡ b
not_passed k b small = rw (le-ltb max_open k small)

unless_passed_at : (k : ℕ) (t a b : Bool) → nat_lt max_open k ≡ t → (k ≤ max_open → a ≡ b) → (nat_lt max_open k || a) ≡ (nat_lt max_open k || b)
unless_passed_at k true a b is same = rw is
unless_passed_at k false a b is same = ap (λ c. nat_lt max_open k || c) (same (ltb-false max_open k is))

unless_passed : (k : ℕ) (a b : Bool) → (k ≤ max_open → a ≡ b) → (nat_lt max_open k || a) ≡ (nat_lt max_open k || b)
unless_passed k a b same = unless_passed_at k _ a b refl same

-- ---- what the lexer's class says of a byte

abbrev Says : Class → ℕ → Type 0
Says quote x = (x == 34) ≡ true
Says backslash x = (x == 92) ≡ true
Says operator x = NoMark x × (is_operator x ≡ true)
Says space x = NoMark x × (is_operator x ≡ false)
Says other x = NoMark x × (is_operator x ≡ false) × (is_space x ≡ false)

says_of : (x : ℕ) (q b o s : Bool) → (x == 34) ≡ q → (x == 92) ≡ b → is_operator x ≡ o → is_space x ≡ s → Says (cond q quote (cond b backslash (cond o operator (cond s space other)))) x
says_of x true b o s hq hb ho hs = hq
says_of x false true o s hq hb ho hs = hb
says_of x false false true s hq hb ho hs = ((hq, hb), ho)
says_of x false false false true hq hb ho hs = ((hq, hb), ho)
says_of x false false false false hq hb ho hs = ((hq, hb), ho, hs)

says : (x : ℕ) → Says (class x) x
says x = says_of x (x == 34) (x == 92) (is_operator x) (is_space x) refl refl refl refl

no_bracket : (a b c d e f : Bool) → (a || b || c || d || e || f) ≡ false → ((c || a) ≡ false) × ((d || b) ≡ false)
no_bracket a b c d e f h =
    let five = (or_parts (a || b || c || d || e) f h).0 in
    let four = (or_parts (a || b || c || d) e five).0 in
    let three = or_parts (a || b || c) d four in
    let two = or_parts (a || b) c three.0 in
    let one = or_parts a b two.0 in
    (rw (two.1, one.0), rw (three.1, one.1))

stays_outside : (x : ℕ) (k : ℕ) (xs : List ℕ) → NoMark x → is_operator x ≡ false → passes_bytes Outside k (x ∷ xs) ≡ (nat_lt max_open k || passes_bytes Outside k xs)
stays_outside x k xs no_mark h = let no = no_bracket (x == 123) (x == 125) (x == 91) (x == 93) (x == 58) (x == 44) h in rw (no_mark.0, no.0, no.1)

stays_inside : (x : ℕ) (k : ℕ) (xs : List ℕ) → NoMark x → passes_bytes Inside k (x ∷ xs) ≡ (nat_lt max_open k || passes_bytes Inside k xs)
stays_inside x k xs no_mark = rw (no_mark.0, no_mark.1)

-- ---- bytes beside lexemes

abbrev place_of : Mode → ours.Place
place_of between = Outside
place_of in_word = Outside
place_of in_string = Inside
place_of in_escape = Escaped

abbrev IfInWord : Mode → Bool → Type 0
IfInWord between b = ⊤
IfInWord in_word b = b ≡ true
IfInWord in_string b = ⊤
IfInWord in_escape b = ⊤

change-word : (t : Token) (k : ℕ) → IsWord t → change t k ≡ k
change-word begin_object k w = absurd w
change-word end_object k w = absurd w
change-word begin_array k w = absurd w
change-word end_array k w = absurd w
change-word (key s) k w = absurd w
change-word (string s) k w = absurd w
change-word (number s) k w = refl
change-word (boolean b) k w = refl
change-word null k w = refl
change-word bad k w = refl

module _ (x : ℕ) (xs : List ℕ) (k : ℕ) (small : k ≤ max_open) where
  abbrev Rest : Mode → ℕ → Type 0
  Rest m n = n ≤ max_open → IfInWord m (clean xs) → AllGood (lex m xs) → passes_bytes (place_of m) n xs ≡ passes_lexemes n (lex m xs)

  abbrev Here : Mode → Class → Type 0
  Here m c = passes_bytes (place_of m) k (x ∷ xs) ≡ passes_lexemes k (lex_byte m c x xs (λ n. lex n xs))

  text_begins : (o : Option (List ℕ)) → (x == 34) ≡ true → Rest in_string k → AllGood (token (string_token o) ∷ lex in_string xs)
      → passes_bytes Outside k (x ∷ xs) ≡ passes_lexemes k (token (string_token o) ∷ lex in_string xs)
  text_begins None is rest good = absurd (false≢true good.0)
  text_begins (Some s) is rest good = rw (eqb-true x 34 is) (ap (λ b. nat_lt max_open k || b) (rest small tt good.1))

  text_ends : (x == 34) ≡ true → Rest between k → AllGood (lex between xs) → passes_bytes Inside k (x ∷ xs) ≡ passes_lexemes k (lex between xs)
  text_ends is rest good = rw (eqb-true x 34 is) (not_passed k _ small ∙ rest small tt good)

  escape_begins : (x == 92) ≡ true → Rest in_escape k → AllGood (lex in_escape xs) → passes_bytes Inside k (x ∷ xs) ≡ passes_lexemes k (lex in_escape xs)
  escape_begins is rest good = rw (eqb-true x 92 is) (not_passed k _ small ∙ rest small tt good)

  text_goes_on : NoMark x → Rest in_string k → AllGood (lex in_string xs) → passes_bytes Inside k (x ∷ xs) ≡ passes_lexemes k (lex in_string xs)
  text_goes_on no_mark rest good = stays_inside x k xs no_mark ∙ not_passed k _ small ∙ rest small tt good

  goes_on : (m : Mode) → NoMark x → is_operator x ≡ false → place_of m ≡ Outside → IfInWord m (clean xs) → Rest m k → AllGood (lex m xs)
      → passes_bytes Outside k (x ∷ xs) ≡ passes_lexemes k (lex m xs)
  goes_on m no_mark no_operator outside in_it rest good =
      stays_outside x k xs no_mark no_operator ∙ not_passed k _ small ∙ ap (λ p. passes_bytes p k xs) (sym outside) ∙ rest small in_it good

  word_begins : (t : Token) → IsWord t → NoMark x → is_operator x ≡ false → clean xs ≡ true → Rest in_word k → AllGood (token t ∷ lex in_word xs)
      → passes_bytes Outside k (x ∷ xs) ≡ passes_lexemes k (token t ∷ lex in_word xs)
  word_begins t w no_mark no_operator clean_rest rest good =
      stays_outside x k xs no_mark no_operator ∙ rw (change-word t k w) (ap (λ b. nat_lt max_open k || b) (rest small clean_rest good.1))

  -- the six operators
  mark : is_operator x ≡ true → ((n : ℕ) → Rest between n) → AllGood (operator_lexeme x ∷ lex between xs) → passes_bytes Outside k (x ∷ xs) ≡ passes_lexemes k (operator_lexeme x ∷ lex between xs)
  mark is rest =
      operators (λ y. AllGood (operator_lexeme y ∷ lex between xs) → passes_bytes Outside k (y ∷ xs) ≡ passes_lexemes k (operator_lexeme y ∷ lex between xs))
      (λ good. unless_passed (k + 1) _ _ (λ few. rest (k + 1) few tt good.1)) (λ good. unless_passed (k - 1) _ _ (λ few. rest (k - 1) few tt good.1))
      (λ good. unless_passed (k + 1) _ _ (λ few. rest (k + 1) few tt good.1)) (λ good. unless_passed (k - 1) _ _ (λ few. rest (k - 1) few tt good.1))
      (λ good. not_passed k _ small ∙ rest k small tt good) (λ good. not_passed k _ small ∙ rest k small tt good) x is

  step : (m : Mode) (c : Class) → Says c x → IfInWord m (clean (x ∷ xs)) → (is_good (word (x ∷ xs)) ≡ true → clean (x ∷ xs) ≡ true)
      → ((n : Mode) (open_count : ℕ) → Rest n open_count) → AllGood (lex_byte m c x xs (λ n. lex n xs)) → Here m c
  step between quote kind in_it words rest good = text_begins (content plain xs) kind (rest in_string k) good
  step between backslash kind in_it words rest good = absurd (false≢true good.0)
  step between operator kind in_it words rest good = mark kind.1 (rest between) good
  step between space kind in_it words rest good = goes_on between kind.0 kind.1 refl tt (rest between k) good
  step between other kind in_it words rest good = word_begins (word (x ∷ xs)) (IsWord-word (x ∷ xs)) kind.0 kind.1 (clean-rest x xs kind.0 kind.1 kind.2 (words good.0)) (rest in_word k) good
  step in_word quote kind in_it words rest good = absurd (not_clean 34 x xs refl kind in_it)
  step in_word backslash kind in_it words rest good = absurd (not_clean 92 x xs refl kind in_it)
  step in_word operator kind in_it words rest good = mark kind.1 (rest between) good
  step in_word space kind in_it words rest good = goes_on between kind.0 kind.1 refl tt (rest between k) good
  step in_word other kind in_it words rest good = goes_on in_word kind.0 kind.1 refl (clean-rest x xs kind.0 kind.1 kind.2 in_it) (rest in_word k) good
  step in_string quote kind in_it words rest good = text_ends kind (rest between k) good
  step in_string backslash kind in_it words rest good = escape_begins kind (rest in_escape k) good
  step in_string operator kind in_it words rest good = text_goes_on kind.0 (rest in_string k) good
  step in_string space kind in_it words rest good = text_goes_on kind.0 (rest in_string k) good
  step in_string other kind in_it words rest good = text_goes_on kind.0 (rest in_string k) good
  step in_escape c kind in_it words rest good = not_passed k _ small ∙ rest in_string k small tt good

bytes_beside_lexemes : (xs : List ℕ) (m : Mode) (k : ℕ) → k ≤ max_open → IfInWord m (clean xs) → AllGood (lex m xs) → passes_bytes (place_of m) k xs ≡ passes_lexemes k (lex m xs)
unfolding lex
bytes_beside_lexemes [] m k small in_it good = refl
bytes_beside_lexemes (x ∷ xs) m k small in_it good =
    step x xs k small m (class x) (says x) in_it (clean-word (x ∷ xs)) (λ n open_count few clean_rest well. bytes_beside_lexemes xs n open_count few clean_rest well) good

-- ---- lexemes beside tokens

module _ (ls : List Lexeme) (goes : (p : Place) (n : ℕ) → NoBad (punctuate p ls) → AllGood ls × (passes_lexemes n ls ≡ passes n (punctuate p ls))) (k : ℕ) where
  allowed : (b : Bool) (t u : Token) (p : Place) → change u k ≡ change t k → is_good u ≡ true → NoBad (if_allowed b t (λ q. punctuate q ls) p)
      → AllGood (token u ∷ ls) × (passes_lexemes k (token u ∷ ls) ≡ passes k (if_allowed b t (λ q. punctuate q ls) p))
  allowed true t u p same good h =
      let after = goes p (change t k) h.1 in
      ((good, after.0), rw same (ap (λ b. nat_lt max_open (change t k) || b) after.1))
  allowed false t u p same good h = absurd (false≢true h.0)

  a_text : (p : Place) (s : List ℕ) (before_colon : Bool) → NoBad (place_token p (string s) before_colon (λ q. punctuate q ls))
      → AllGood (token (string s) ∷ ls) × (passes_lexemes k (token (string s) ∷ ls) ≡ passes k (place_token p (string s) before_colon (λ q. punctuate q ls)))
  a_text p s true h = allowed (may_begin p) (key s) (string s) after_key refl refl h
  a_text p s false h = allowed (may_begin p) (string s) (string s) after_value refl refl h

  a_token : (p : Place) (t : Token) → NoBad (place_token p t (begins_colon ls) (λ q. punctuate q ls))
      → AllGood (token t ∷ ls) × (passes_lexemes k (token t ∷ ls) ≡ passes k (place_token p t (begins_colon ls) (λ q. punctuate q ls)))
  a_token p begin_object h = allowed (may_begin p) begin_object begin_object fresh refl refl h
  a_token p end_object h = allowed (may_close p) end_object end_object after_value refl refl h
  a_token p begin_array h = allowed (may_begin p) begin_array begin_array fresh refl refl h
  a_token p end_array h = allowed (may_close p) end_array end_array after_value refl refl h
  a_token p (key s) h = absurd (false≢true h.0)
  a_token p (string s) h = a_text p s (begins_colon ls) h
  a_token p (number s) h = allowed (may_begin p) (number s) (number s) after_value refl refl h
  a_token p (boolean b) h = allowed (may_begin p) (boolean b) (boolean b) after_value refl refl h
  a_token p null h = allowed (may_begin p) null null after_value refl refl h
  a_token p bad h = absurd (false≢true h.0)

lexemes_beside_tokens : (ls : List Lexeme) (p : Place) (k : ℕ) → NoBad (punctuate p ls) → AllGood ls × (passes_lexemes k ls ≡ passes k (punctuate p ls))
unfolding punctuate
lexemes_beside_tokens [] fresh k h = (tt, refl)
lexemes_beside_tokens [] after_value k h = (tt, refl)
lexemes_beside_tokens [] after_comma k h = absurd (false≢true h.0)
lexemes_beside_tokens [] after_key k h = absurd (false≢true h.0)
lexemes_beside_tokens (token t ∷ ls) p k h = a_token ls (λ q n. lexemes_beside_tokens ls q n) k p t h
lexemes_beside_tokens (comma ∷ ls) fresh k h = absurd (false≢true h.0)
lexemes_beside_tokens (comma ∷ ls) after_value k h = lexemes_beside_tokens ls after_comma k h
lexemes_beside_tokens (comma ∷ ls) after_comma k h = absurd (false≢true h.0)
lexemes_beside_tokens (comma ∷ ls) after_key k h = absurd (false≢true h.0)
lexemes_beside_tokens (colon ∷ ls) fresh k h = absurd (false≢true h.0)
lexemes_beside_tokens (colon ∷ ls) after_value k h = absurd (false≢true h.0)
lexemes_beside_tokens (colon ∷ ls) after_comma k h = absurd (false≢true h.0)
lexemes_beside_tokens (colon ∷ ls) after_key k h = lexemes_beside_tokens ls fresh k h

-- the count over the bytes passes the limit where the count over the tokens does
pub nests_too_deep-tokens : (bytes : List ℕ) → NoBad (tokens bytes) → nests_too_deep bytes ≡ passes 0 (tokens bytes)
nests_too_deep-tokens bytes h =
    let both = lexemes_beside_tokens (lex between bytes) fresh 0 h in
    bytes_beside_lexemes bytes between 0 (omega arith) tt both.0 ∙ both.1
