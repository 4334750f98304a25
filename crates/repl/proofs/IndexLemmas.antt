-- A session that is added to an index that has none of its name.
use Rattle.std.proofs.Common.{◌≡◌, ℕ, Bool, true, false, List, Option, Some, None, option_map, refl, subst, cond, bytes_eq, Decides}
use Rattle.std.specs.Option.{option_or}
use Rattle.std.proofs.lemmas.Slice.Eq.{bytes_eq-Decides}

-- where there was nothing at k, what is found at q after n was put at k: what was there, or else n if q is k
pub first_put : (found : List ℕ → Option ℕ) (n : ℕ) (k q : List ℕ) → found k ≡ None
    → cond (bytes_eq k q) (Some n) (found q) ≡ option_or (found q) (cond (bytes_eq k q) (Some n) None)
first_put found n k q absent = by_test (bytes_eq k q) (bytes_eq-Decides k q)
  where
    or_none : (o : Option ℕ) → o ≡ option_or o None
    or_none None = refl
    or_none (Some m) = refl

    by_test : (b : Bool) → Decides b (k ≡ q) → cond b (Some n) (found q) ≡ option_or (found q) (cond b (Some n) None)
    by_test true same = let gone : found q ≡ None = subst (λ x. found x ≡ None) (same.0 refl) absent in rw gone refl
    by_test false other = or_none (found q)

-- a value's number, chosen or found
pub map_cond : {A : Type 0} (f : A → ℕ) (b : Bool) (a : A) (o : Option A) → option_map f (cond b (Some a) o) ≡ cond b (Some (f a)) (option_map f o)
map_cond f true a o = refl
map_cond f false a o = refl
