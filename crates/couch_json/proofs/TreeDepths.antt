-- How deep a tree of json nests, and how many brackets its tokens open.
use Rattle.std.proofs.Common.{◌≡◌, ℕ, ◌+◌, ◌-◌, ◌≤◌, List, [], ◌∷◌, ◌++◌, false, ◌||◌, nat_lt, refl, sym, ap, ◌∙◌, arith, append_assoc}
use Rattle.std.proofs.lemmas.Bool.{or_parts, ltb-false}
use Rattle.json.specs.Token.{Token}
use Rattle.json.specs.Json.{Json, null, boolean, number, string, array, object, Items, no_items, item, Members, no_members, member}
use Rattle.json.specs.Tree.{json_tokens, items_tokens, members_tokens, depth, items_depth, members_depth}
use Rattle.couch_json.specs.Nesting.{max_open}
use Rattle.couch_json.proofs.OpenCounts.{passes, NoBad, not_passed}

-- ---- no token of a tree is bad

NoBad-append : (ts us : List Token) → NoBad ts → NoBad us → NoBad (ts ++ us)
NoBad-append [] us h g = g
NoBad-append (t ∷ ts) us h g = (h.0, NoBad-append ts us h.1 g)

mutual
  pub NoBad-json_tokens : (j : Json) → NoBad (json_tokens j)
  NoBad-json_tokens null = (refl, tt)
  NoBad-json_tokens (boolean b) = (refl, tt)
  NoBad-json_tokens (number s) = (refl, tt)
  NoBad-json_tokens (string s) = (refl, tt)
  NoBad-json_tokens (array js) = (refl, NoBad-items_tokens js)
  NoBad-json_tokens (object ms) = (refl, NoBad-members_tokens ms)

  NoBad-items_tokens : (js : Items) → NoBad (items_tokens js)
  NoBad-items_tokens no_items = (refl, tt)
  NoBad-items_tokens (item j js) = NoBad-append (json_tokens j) (items_tokens js) (NoBad-json_tokens j) (NoBad-items_tokens js)

  NoBad-members_tokens : (ms : Members) → NoBad (members_tokens ms)
  NoBad-members_tokens no_members = (refl, tt)
  NoBad-members_tokens (member name j ms) = (refl, NoBad-append (json_tokens j) (members_tokens ms) (NoBad-json_tokens j) (NoBad-members_tokens ms))

-- ---- a shallow tree's tokens pass nowhere

closed : (k : ℕ) (rest : List Token) → k + 1 ≤ max_open → passes (k + 1 - 1) rest ≡ passes k rest
closed k rest small = let e : k + 1 - 1 ≡ k = omega arith in ap (λ n. passes n rest) e

mutual
  pub passes-json_tokens : (j : Json) (k : ℕ) (rest : List Token) → k + depth j ≤ max_open → passes k (json_tokens j ++ rest) ≡ passes k rest
  passes-json_tokens null k rest small = not_passed k _ (omega arith)
  passes-json_tokens (boolean b) k rest small = not_passed k _ (omega arith)
  passes-json_tokens (number s) k rest small = not_passed k _ (omega arith)
  passes-json_tokens (string s) k rest small = not_passed k _ (omega arith)
  passes-json_tokens (array js) k rest small = not_passed (k + 1) _ (omega arith) ∙ passes-items_tokens js k rest (omega arith)
  passes-json_tokens (object ms) k rest small = not_passed (k + 1) _ (omega arith) ∙ passes-members_tokens ms k rest (omega arith)

  passes-items_tokens : (js : Items) (k : ℕ) (rest : List Token) → k + 1 + items_depth js ≤ max_open → passes (k + 1) (items_tokens js ++ rest) ≡ passes k rest
  passes-items_tokens no_items k rest small = not_passed (k + 1 - 1) _ (omega arith) ∙ closed k rest (omega arith)
  passes-items_tokens (item j js) k rest small =
      ap (passes (k + 1)) (append_assoc (json_tokens j) (items_tokens js) rest) ∙ passes-json_tokens j (k + 1) (items_tokens js ++ rest) (omega arith) ∙ passes-items_tokens js k rest (omega arith)

  passes-members_tokens : (ms : Members) (k : ℕ) (rest : List Token) → k + 1 + members_depth ms ≤ max_open → passes (k + 1) (members_tokens ms ++ rest) ≡ passes k rest
  passes-members_tokens no_members k rest small = not_passed (k + 1 - 1) _ (omega arith) ∙ closed k rest (omega arith)
  passes-members_tokens (member name j ms) k rest small =
      not_passed (k + 1) _ (omega arith) ∙ ap (passes (k + 1)) (append_assoc (json_tokens j) (members_tokens ms) rest) ∙ passes-json_tokens j (k + 1) (members_tokens ms ++ rest) (omega arith)
      ∙ passes-members_tokens ms k rest (omega arith)

-- ---- a tree whose tokens pass nowhere is shallow

abbrev Within : ℕ → ℕ → List Token → Type 0
Within k deep rest = (k + deep ≤ max_open) × (passes k rest ≡ false)

scalar : (k : ℕ) (rest : List Token) → (nat_lt max_open k || passes k rest) ≡ false → Within k 0 rest
scalar k rest h = let both = or_parts _ _ h in let small = ltb-false max_open k both.0 in (omega arith, both.1)

mutual
  pub depth_within : (j : Json) (k : ℕ) (rest : List Token) → passes k (json_tokens j ++ rest) ≡ false → Within k (depth j) rest
  depth_within null k rest h = scalar k rest h
  depth_within (boolean b) k rest h = scalar k rest h
  depth_within (number s) k rest h = scalar k rest h
  depth_within (string s) k rest h = scalar k rest h
  depth_within (array js) k rest h =
      let both = or_parts _ _ h in
      let inner = items_within js k rest (ltb-false max_open (k + 1) both.0) both.1 in
      (omega (arith, inner.0), inner.1)
  depth_within (object ms) k rest h =
      let both = or_parts _ _ h in
      let inner = members_within ms k rest (ltb-false max_open (k + 1) both.0) both.1 in
      (omega (arith, inner.0), inner.1)

  items_within : (js : Items) (k : ℕ) (rest : List Token) → k + 1 ≤ max_open → passes (k + 1) (items_tokens js ++ rest) ≡ false → (k + 1 + items_depth js ≤ max_open) × (passes k rest ≡ false)
  items_within no_items k rest small h = (omega arith, sym (closed k rest small) ∙ (or_parts _ _ h).1)
  items_within (item j js) k rest small h =
      let first = depth_within j (k + 1) (items_tokens js ++ rest) (sym (ap (passes (k + 1)) (append_assoc (json_tokens j) (items_tokens js) rest)) ∙ h) in
      let others = items_within js k rest small first.1 in
      (omega (arith, first.0, others.0), others.1)

  members_within : (ms : Members) (k : ℕ) (rest : List Token) → k + 1 ≤ max_open → passes (k + 1) (members_tokens ms ++ rest) ≡ false → (k + 1 + members_depth ms ≤ max_open) × (passes k rest ≡ false)
  members_within no_members k rest small h = (omega arith, sym (closed k rest small) ∙ (or_parts _ _ h).1)
  members_within (member name j ms) k rest small h =
      let first : (k + 1 + depth j ≤ max_open) × (passes (k + 1) (members_tokens ms ++ rest) ≡ false) =
      depth_within j (k + 1) (members_tokens ms ++ rest) (sym (ap (passes (k + 1)) (append_assoc (json_tokens j) (members_tokens ms) rest)) ∙ (or_parts _ _ h).1) in
      let others : (k + 1 + members_depth ms ≤ max_open) × (passes k rest ≡ false) = members_within ms k rest small first.1 in
      (omega arith, others.1)
