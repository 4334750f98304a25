-- The parts of a lawful value are lawful, and its texts are bytes.
use Rattle.std.proofs.Common.{◌≡◌, ◌<◌, ⊎_elim, ℕ, ◌+◌, ◌/◌, ◌%◌, Bool, true, false, cond, ◌&&◌, List, [], ◌∷◌, ◌++◌, map, Some, refl, subst, ltb, ltb-true, arith}
use Rattle.std.specs.Prelude.{IsUtf8}
use Rattle.std.specs.List.{All, AllByRecursion}
use Rattle.std.proofs.lemmas.List.Elements.{All-from_recursion}
use Rattle.couch_json.specs.Canonical.{canonical}
use Rattle.couch_json.specs.Lawful.{AreLawfulItems, IsLawful}
use Rattle.couch_json.specs.Parts.{items_in, text_in}
use Rattle.couch_json.specs.Value.{Items, Value, array, null, object, text, truth, whole}
use Rattle.couch_json.specs.View.{items_of}
use Rattle.passes.proofs.Opening.{read_back, utf8_read}
use Rattle.repl.specs.Calls.{texts_value}
use lib.Utf8.{encode, encodes, scalar, scalar_cases, scalars}

both_so : (a b : Bool) → (a && b) ≡ true → (a ≡ true) × (b ≡ true)
both_so true b e = (refl, e)
both_so false b e = absurd cc

-- ---- texts

small_cases : (c : ℕ) (a b d : Bool) → (a ≡ true → c < 128) → (b ≡ true → c < 2048) → (d ≡ true → c < 65536) → c < 1114112
    → AllByRecursion (λ x. x < 256) (cond a (c ∷ []) (cond b ((192 + c / 64) ∷ (128 + c % 64) ∷ []) (cond d ((224 + c / 4096) ∷ (128 + c / 64 % 64) ∷ (128 + c % 64) ∷ []) ((240 + c / 262144) ∷ (128 + c / 4096 % 64) ∷ (128 + c / 64 % 64) ∷ (128 + c % 64) ∷ []))))
small_cases c true b d p q r lt = (omega (arith, p refl), tt)
small_cases c false true d p q r lt = (omega (arith, q refl), (omega arith, tt))
small_cases c false false true p q r lt = (omega (arith, r refl), (omega arith, (omega arith, tt)))
small_cases c false false false p q r lt = (omega (arith, lt), (omega arith, (omega arith, (omega arith, tt))))

below_limit : (c : ℕ) → scalar c ≡ true → c < 1114112
below_limit c e = ⊎_elim (λ h. omega (arith, h)) (λ h. h.1) (scalar_cases c e)

encoded_small : (c : ℕ) → scalar c ≡ true → AllByRecursion (λ x. x < 256) (encode c)
unfolding encode
encoded_small c e = small_cases c (ltb c 128) (ltb c 2048) (ltb c 65536) (ltb-true c 128) (ltb-true c 2048) (ltb-true c 65536) (below_limit c e)

both_small : (xs ys : List ℕ) → AllByRecursion (λ x. x < 256) xs → AllByRecursion (λ x. x < 256) ys → AllByRecursion (λ x. x < 256) (xs ++ ys)
both_small [] ys p q = q
both_small (x ∷ xs) ys p q = (p.0, both_small xs ys p.1 q)

all_small : (cs : List ℕ) → scalars cs ≡ true → AllByRecursion (λ x. x < 256) (encodes cs)
all_small [] e = tt
all_small (c ∷ cs) e = let k = both_so (scalar c) (scalars cs) e in both_small (encode c) (encodes cs) (encoded_small c k.0) (all_small cs k.1)

-- a text is bytes
pub text_is_bytes : (s : List ℕ) → IsUtf8 s → All (λ b. b < 256) s
text_is_bytes s (cs, (are, spell)) = All-from_recursion (λ b. b < 256) s (subst (AllByRecursion (λ x. x < 256)) spell (all_small cs are))

-- ---- texts of a written list

pub lawful_texts : (ts : List (List ℕ)) → AllByRecursion IsUtf8 ts → AreLawfulItems (items_of (map text ts))
lawful_texts [] are = tt
lawful_texts (t ∷ ts) are = (are.0, lawful_texts ts are.1)

-- a list of texts, as it is written, is bytes
pub written_list : (ts : List (List ℕ)) → AllByRecursion IsUtf8 ts → All (λ b. b < 256) (canonical (array (items_of (map text ts))))
written_list ts are =
    let v = texts_value ts in
    text_is_bytes (canonical v) (utf8_read (canonical v) v (read_back ts (lawful_texts ts are)))

-- ---- parts

pub items_part : (v : Value) (vs : Items) → IsLawful v → items_in v ≡ Some vs → AreLawfulItems vs
items_part null vs h e = absurd cc
items_part (truth b) vs h e = absurd cc
items_part (whole n) vs h e = absurd cc
items_part (text s) vs h e = absurd cc
items_part (array ws) vs h e = let same : ws ≡ vs = cc in subst AreLawfulItems same h
items_part (object ms) vs h e = absurd cc

-- the text of a lawful value is UTF-8
pub text_part : (v : Value) (s : List ℕ) → IsLawful v → text_in v ≡ Some s → IsUtf8 s
text_part null s h e = absurd cc
text_part (truth b) s h e = absurd cc
text_part (whole n) s h e = absurd cc
text_part (text t) s h e = let same : t ≡ s = cc in subst IsUtf8 same h
text_part (array ws) s h e = absurd cc
text_part (object ms) s h e = absurd cc
