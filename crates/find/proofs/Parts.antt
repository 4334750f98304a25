-- A document goes into the part.
use Rattle.std.proofs.Common.{◌≡◌, ℕ, suc, List, [], ◌∷◌, ◌++◌, take, drop, append_assoc, sym, ◌∙◌}
use Rattle.couch_json.specs.Value.{Value}

pub one_taken : (skip limit left : ℕ) (before after : List Value) (d : Value) (rest : List Value) → skip ≡ 0 → limit ≡ suc left → after ≡ before ++ d ∷ []
    → after ++ take left (drop skip rest) ≡ before ++ take limit (drop skip (d ∷ rest))
one_taken skip limit left before after d rest none more made =
    (λ i. made i ++ take left (drop (none i) rest))
    ∙ append_assoc before (d ∷ []) (take left rest)
    ∙ (λ i. before ++ take (sym more i) (drop (sym none i) (d ∷ rest)))
