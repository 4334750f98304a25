-- Lists in a direction.
use Rattle.std.proofs.Common.{◌≡◌, ◌⊎◌, ◌-◌, ℕ, zero, suc, Bool, true, false, AllPairs, cond, get_or, length, List, [], ◌∷◌, ◌++◌, Option, Some, None, drop, filter, map, reverse, refl, sym, ap, subst, ◌∙◌, inl, inr, append-nil, arith}
use Rattle.std.proofs.lemmas.Grind.{flat_map-append}
use Rattle.std.proofs.lemmas.List.{get_or-reverse, length-reverse, map-append, reverse-append}
use Rattle.std.proofs.lemmas.List.Elements.{filter-append}
use Rattle.std.specs.Prelude.{flat_map}
use Rattle.std.specs.Option.{option_to_list}
use Rattle.store.specs.Pages.{in_direction}
use Rattle.store.proofs.Listings.{In}

pub reverse-cons : {X : Type 0} (x : X) (xs : List X) → reverse (x ∷ xs) ≡ reverse xs ++ x ∷ []
reverse-cons x xs = reverse-append (x ∷ []) xs

map-reverse : {X Y : Type 0} (f : X → Y) (xs : List X) → map f (reverse xs) ≡ reverse (map f xs)
map-reverse f [] = refl
map-reverse f (x ∷ xs) =
    ap (map f) (reverse-cons x xs) ∙ map-append f (reverse xs) (x ∷ []) ∙ ap (λ ys. ys ++ f x ∷ []) (map-reverse f xs) ∙ sym (reverse-cons (f x) (map f xs))

pub map_directed : {X Y : Type 0} (f : X → Y) (descending : Bool) (xs : List X) → map f (in_direction descending xs) ≡ in_direction descending (map f xs)
map_directed f true xs = map-reverse f xs
map_directed f false xs = refl

filter-reverse : {X : Type 0} (p : X → Bool) (xs : List X) → filter p (reverse xs) ≡ reverse (filter p xs)
filter-reverse p [] = refl
filter-reverse p (x ∷ xs) = ap (filter p) (reverse-cons x xs) ∙ filter-append p (reverse xs) (x ∷ []) ∙ ap (λ ys. ys ++ filter p (x ∷ [])) (filter-reverse p xs) ∙ by (p x)
  where
    by : (b : Bool) → reverse (filter p xs) ++ cond b (x ∷ []) [] ≡ reverse (cond b (x ∷ filter p xs) (filter p xs))
    by true = sym (reverse-cons x (filter p xs))
    by false = append-nil (reverse (filter p xs))

pub filter-directed : {X : Type 0} (p : X → Bool) (descending : Bool) (xs : List X) → filter p (in_direction descending xs) ≡ in_direction descending (filter p xs)
filter-directed p true xs = filter-reverse p xs
filter-directed p false xs = refl

-- each element gives one at most
options-reverse : {X Y : Type 0} (f : X → Option Y) (xs : List X) → flat_map (λ x. option_to_list (f x)) (reverse xs) ≡ reverse (flat_map (λ x. option_to_list (f x)) xs)
options-reverse f [] = refl
options-reverse {X} {Y} f (x ∷ xs) =
    ap (flat_map (λ x. option_to_list (f x))) (reverse-cons x xs) ∙ flat_map-append (λ x. option_to_list (f x)) (reverse xs) (x ∷ [])
    ∙ ap (λ ys. ys ++ flat_map (λ x. option_to_list (f x)) (x ∷ [])) (options-reverse f xs) ∙ by (f x)
  where
    by : (o : Option Y) → reverse (flat_map (λ x. option_to_list (f x)) xs) ++ (option_to_list o ++ []) ≡ reverse (option_to_list o ++ flat_map (λ x. option_to_list (f x)) xs)
    by None = append-nil (reverse (flat_map (λ x. option_to_list (f x)) xs))
    by (Some y) = sym (reverse-cons y (flat_map (λ x. option_to_list (f x)) xs))

pub options-directed : {X Y : Type 0} (f : X → Option Y) (descending : Bool) (xs : List X)
    → flat_map (λ x. option_to_list (f x)) (in_direction descending xs) ≡ in_direction descending (flat_map (λ x. option_to_list (f x)) xs)
options-directed f true xs = options-reverse f xs
options-directed f false xs = refl

-- ---- what stands in them

from_append : {X : Type 0} (xs : List X) (y x : X) → In (xs ++ y ∷ []) x → (y ≡ x) ⊎ In xs x
from_append [] y x (inl i) = inl i
from_append [] y x (inr i) = absurd i
from_append (z ∷ xs) y x (inl i) = inr (inl i)
from_append (z ∷ xs) y x (inr i) = elim (from_append xs y x i) as (λ _. (y ≡ x) ⊎ In (z ∷ xs) x) [ inl k ↦ inl k | inr k ↦ inr (inr k) ]

in_append : {X : Type 0} (xs : List X) (y x : X) → (y ≡ x) ⊎ In xs x → In (xs ++ y ∷ []) x
in_append [] y x (inl i) = inl i
in_append [] y x (inr i) = absurd i
in_append (z ∷ xs) y x (inl i) = inr (in_append xs y x (inl i))
in_append (z ∷ xs) y x (inr (inl i)) = inl i
in_append (z ∷ xs) y x (inr (inr i)) = inr (in_append xs y x (inr i))

from_reverse : {X : Type 0} (xs : List X) (x : X) → In (reverse xs) x → In xs x
from_reverse [] x i = i
from_reverse (y ∷ xs) x i = elim (from_append (reverse xs) y x (subst (λ zs. In zs x) (reverse-cons y xs) i)) as (λ _. In (y ∷ xs) x) [ inl k ↦ inl k | inr k ↦ inr (from_reverse xs x k) ]

in_reverse : {X : Type 0} (xs : List X) (x : X) → In xs x → In (reverse xs) x
in_reverse [] x i = i
in_reverse (y ∷ xs) x (inl i) = subst (λ zs. In zs x) (sym (reverse-cons y xs)) (in_append (reverse xs) y x (inl i))
in_reverse (y ∷ xs) x (inr i) = subst (λ zs. In zs x) (sym (reverse-cons y xs)) (in_append (reverse xs) y x (inr (in_reverse xs x i)))

pub from_directed : {X : Type 0} (descending : Bool) (xs : List X) (x : X) → In (in_direction descending xs) x → In xs x
from_directed true xs x i = from_reverse xs x i
from_directed false xs x i = i

pub in_directed : {X : Type 0} (descending : Bool) (xs : List X) (x : X) → In xs x → In (in_direction descending xs) x
in_directed true xs x i = in_reverse xs x i
in_directed false xs x i = i

pub from_drop : {X : Type 0} (n : ℕ) (xs : List X) (x : X) → In (drop n xs) x → In xs x
from_drop zero xs x i = i
from_drop (suc n) [] x i = i
from_drop (suc n) (y ∷ xs) x i = inr (from_drop n xs x i)

-- ---- pairs

pub pairs_drop : {X : Type 0} (R : X → X → Type 0) (n : ℕ) (xs : List X) → AllPairs R xs → AllPairs R (drop n xs)
pairs_drop R zero xs h = h
pairs_drop R (suc n) [] h = h
pairs_drop R (suc n) (x ∷ xs) h = pairs_drop R n xs (λ i j d lt within. h (suc i) (suc j) d (omega arith) (omega arith))

pub pairs_reverse : {X : Type 0} (R : X → X → Type 0) (xs : List X) → AllPairs (λ a b. R b a) xs → AllPairs R (reverse xs)
pairs_reverse R xs h = λ i j d lt within.
    let long = length-reverse xs in
    let a : get_or (reverse xs) i d ≡ get_or xs (length xs - 1 - i) d = get_or-reverse xs i d (omega arith) in
    let b : get_or (reverse xs) j d ≡ get_or xs (length xs - 1 - j) d = get_or-reverse xs j d (omega arith) in
    rw (a, b) (h (length xs - 1 - j) (length xs - 1 - i) d (omega arith) (omega arith))
