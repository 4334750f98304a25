-- The entries of a map, one after another, and that their values are less deep than what holds them.
use Rattle.std.proofs.Common.{◌≡◌, ℕ, zero, suc, ◌<◌, ◌≤◌, ◌+◌, List, [], ◌∷◌, length, drop, get_or, ap, ◌∙◌, String, Global, sym, subst, arith}
use denote.Param.Weighed.{most}
use Rattle.std.specs.Map.{values_of}

pub most_at : {X : Type 0} (f : X → ℕ) (es : List (String Global × X)) (i : ℕ) (d : String Global × X) → i < length es → f (get_or es i d).1 ≤ most f (values_of es)
most_at f [] i d lt = absurd (omega arith)
most_at f (e ∷ es) zero d lt = omega arith
most_at f (e ∷ es) (suc i) d lt = let rest = most_at f es i d (omega arith) in omega arith

-- the same of an entry that a loop over the entries comes by
pub entry_below : {X : Type 0} (f : X → ℕ) (es fs : List (String Global × X)) (i : ℕ) (e : String Global × X) → es ≡ fs → i < length es → e ≡ get_or es i e → f e.1 ≤ most f (values_of fs)
entry_below f es fs i e same lt is = subst (λ gs. f e.1 ≤ most f (values_of gs)) same (subst (λ d. f d.1 ≤ most f (values_of es)) (sym is) (most_at f es i e lt))

left_behind : {X : Type 0} (es : List X) (i : ℕ) (e : X) → i < length es → e ≡ get_or es i e → drop i es ≡ e ∷ drop (suc i) es
left_behind [] i e lt is = absurd (omega arith)
left_behind (d ∷ es) zero e lt is = ap (λ f. f ∷ es) (sym is)
left_behind (d ∷ es) (suc i) e lt is = left_behind es i e (omega arith) is

-- what is left of a list before and behind one of its elements
pub left_from : {X : Type 0} (es : List X) (i : ℕ) (e : X) → i < length es → e ≡ get_or es i e → drop i es ≡ e ∷ drop (i + 1) es
left_from es i e lt is = let next : suc i ≡ i + 1 = omega arith in left_behind es i e lt is ∙ ap (λ n. e ∷ drop n es) next
