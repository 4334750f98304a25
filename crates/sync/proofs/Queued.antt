-- Requests that are sent ahead of their turn, one after another.
use Rattle.std.proofs.Common.{◌≡◌, ◌<◌, ◌+◌, ◌++◌, ◌∙◌, ◌∷◌, ℕ, zero, suc, List, [], length, map, take, ap, refl, sym, slice_index_or, append_assoc, append-nil, arith}
use Rattle.std.proofs.lemmas.List.Folds.{concat-append}
use Rattle.std.specs.List.{concat}

-- the request whose reply comes next is the first
pub first_awaited : {V : Type 0} (text_of : V → List ℕ) (vs : List V) (v : V) (text request : List ℕ) → 0 < length vs → v ≡ slice_index_or vs 0 v → text ≡ text_of v → text ≡ request
    → (rest : List (List ℕ)) × (map text_of vs ≡ request ∷ rest)
first_awaited text_of [] v text request some is told same = absurd (omega (arith, some))
first_awaited text_of (x ∷ xs) v text request some is told same = (map text_of xs, ap (λ (t : List ℕ). t ∷ map text_of xs) (ap text_of (sym is) ∙ sym told ∙ same))

module _ {R : Type 0} (g : R → List ℕ) where
  more_of : (rs : List R) (n : ℕ) (r : R) → n < length rs → r ≡ slice_index_or rs n r → take (suc n) (map g rs) ≡ take n (map g rs) ++ g r ∷ []
  more_of [] n r within is = absurd (omega (arith, within))
  more_of (x ∷ xs) zero r within is = ap (λ (e : R). g e ∷ []) (sym is)
  more_of (x ∷ xs) (suc n) r within is = ap (λ (l : List (List ℕ)). g x ∷ l) (more_of xs n r (omega (arith, within)) is)

  module _ (next : List R) (n : ℕ) (r : R) (text : List ℕ) (within : n < length next) (is : r ≡ slice_index_or next n r) (told : text ≡ g r) where
    one_more : take (n + 1) (map g next) ≡ take n (map g next) ++ text ∷ []
    one_more =
        let one : n + 1 ≡ suc n = omega arith in
        ap (λ (k : ℕ). take k (map g next)) one ∙ more_of next n r within is ∙ ap (λ (t : List ℕ). take n (map g next) ++ t ∷ []) (sym told)

    -- one more is awaited
    pub awaits_more : (before now after : List (List ℕ)) → after ≡ now ++ text ∷ [] → now ≡ before ++ take n (map g next) → after ≡ before ++ take (n + 1) (map g next)
    awaits_more before now after pushed awaited =
        pushed ∙ ap (λ (l : List (List ℕ)). l ++ text ∷ []) awaited ∙ append_assoc before (take n (map g next)) (text ∷ []) ∙ ap (λ (l : List (List ℕ)). before ++ l) (sym one_more)

    -- its bytes stand behind those of the others
    pub bytes_more : (first now after : List ℕ) → after ≡ now ++ text → now ≡ concat (first ∷ take n (map g next)) → after ≡ concat (first ∷ take (n + 1) (map g next))
    bytes_more first now after pushed stand =
        let joined : concat (first ∷ (take n (map g next) ++ text ∷ [])) ≡ concat (first ∷ take n (map g next)) ++ (text ++ []) = concat-append (first ∷ take n (map g next)) (text ∷ []) in
        pushed ∙ ap (λ (l : List ℕ). l ++ text) stand ∙ ap (λ (l : List ℕ). concat (first ∷ take n (map g next)) ++ l) (sym (append-nil text)) ∙ sym joined
        ∙ ap (λ (l : List (List ℕ)). concat (first ∷ l)) (sym one_more)
