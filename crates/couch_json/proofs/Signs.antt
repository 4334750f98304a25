-- The characters of a field path, byte by byte.
use Rattle.std.proofs.Common.{◌≡◌, ◌≢◌, ◌<◌, ◌≤◌, ℕ, ◌+◌, ◌/◌, ◌%◌, List, [], ◌∷◌, ◌++◌, Bool, true, false, cond, encode_utf8, refl, ap, ◌∙◌, append_assoc, arith}
use Rattle.std.proofs.lemmas.Bool.{ne_eqb}
use Rattle.couch_json.specs.FieldPath.{names_from, with_held}
use Rattle.std.specs.Prelude.{⊤}
use lib.Dec.{ltb}
use lib.Utf8.{encode, next}

-- no byte is a dot or a backslash
abbrev ArePlain : List ℕ → Type 0
ArePlain [] = ⊤
ArePlain (byte ∷ bytes) = (byte ≢ 46) × (byte ≢ 92) × ArePlain bytes

-- a byte that is neither, and then several
plain_byte : (held : Bool) (name : List ℕ) (byte : ℕ) (rest : List ℕ) → byte ≢ 46 → byte ≢ 92
    → names_from held name (byte ∷ rest) ≡ names_from false (with_held held name ++ byte ∷ []) rest
plain_byte held name byte rest no_dot no_backslash = rw (ne_eqb byte 46 no_dot, ne_eqb byte 92 no_backslash) refl

plain_bytes : (held : Bool) (name : List ℕ) (byte : ℕ) (bytes rest : List ℕ) → ArePlain (byte ∷ bytes)
    → names_from held name ((byte ∷ bytes) ++ rest) ≡ names_from false (with_held held name ++ byte ∷ bytes) rest
plain_bytes held name byte [] rest h = plain_byte held name byte rest h.0 h.1
plain_bytes held name byte (next ∷ bytes) rest h =
    plain_byte held name byte ((next ∷ bytes) ++ rest) h.0 h.1
    ∙ plain_bytes false (with_held held name ++ byte ∷ []) next bytes rest h.2
    ∙ ap (λ n. names_from false n rest) (append_assoc (with_held held name) (byte ∷ []) (next ∷ bytes))

either : (P : List ℕ → Type 0) (b : Bool) (xs ys : List ℕ) → P xs → P ys → P (cond b xs ys)
either P true xs ys p q = p
either P false xs ys p q = q

-- a byte of a character beyond ASCII
high : (base more byte : ℕ) → byte < 128 → 128 ≤ base → base + more ≢ byte
high base more byte small big e = omega (arith, e)

later : (bits : ℕ) (bytes : List ℕ) → ArePlain bytes → ArePlain (next bits ∷ bytes)
later bits bytes h = (high 128 (bits % 64) 46 (omega arith) (omega arith), high 128 (bits % 64) 92 (omega arith) (omega arith), h)

-- a character that is neither
pub plain_sign : (held : Bool) (name : List ℕ) (sign : ℕ) (rest : List ℕ) → sign ≢ 46 → sign ≢ 92
    → names_from held name (encode_utf8 sign ++ rest) ≡ names_from false (with_held held name ++ encode_utf8 sign) rest
unfolding encode
plain_sign held name sign rest no_dot no_backslash =
    let IsTaken : List ℕ → Type 0 = λ bytes. names_from held name (bytes ++ rest) ≡ names_from false (with_held held name ++ bytes) rest in
    let two : List ℕ = (192 + sign / 64) ∷ next sign ∷ [] in
    let three : List ℕ = (224 + sign / 4096) ∷ next (sign / 64) ∷ next sign ∷ [] in
    let four : List ℕ = (240 + sign / 262144) ∷ next (sign / 4096) ∷ next (sign / 64) ∷ next sign ∷ [] in
    either IsTaken (ltb sign 128) (sign ∷ []) (cond (ltb sign 2048) two (cond (ltb sign 65536) three four))
    (plain_bytes held name sign [] rest (no_dot, no_backslash, tt))
    (either IsTaken (ltb sign 2048) two (cond (ltb sign 65536) three four)
    (plain_bytes held name (192 + sign / 64) (next sign ∷ []) rest
    (high 192 (sign / 64) 46 (omega arith) (omega arith), high 192 (sign / 64) 92 (omega arith) (omega arith), later sign [] tt))
    (either IsTaken (ltb sign 65536) three four
    (plain_bytes held name (224 + sign / 4096) (next (sign / 64) ∷ next sign ∷ []) rest (
      high 224 (sign / 4096) 46 (omega arith) (omega arith),
      high 224 (sign / 4096) 92 (omega arith) (omega arith),
      later (sign / 64) (next sign ∷ []) (later sign [] tt),
    ))
    (plain_bytes held name (240 + sign / 262144) (next (sign / 4096) ∷ next (sign / 64) ∷ next sign ∷ []) rest (
      high 240 (sign / 262144) 46 (omega arith) (omega arith),
      high 240 (sign / 262144) 92 (omega arith) (omega arith),
      later (sign / 4096) (next (sign / 64) ∷ next sign ∷ []) (later (sign / 64) (next sign ∷ []) (later sign [] tt)),
    ))))
