-- What is among the elements of a list that was mapped, filtered, cut or put in order.
use Rattle.std.proofs.Common.{◌≡◌, ◌⊎◌, ℕ, zero, suc, List, [], ◌∷◌, map, filter, take, Bool, true, false, cond, Option, Some, None, Ordering, nat_cmp, refl, sym, ap, ◌∙◌, inl, inr, arith}
use Rattle.std.specs.List.{All, Contains}
use Rattle.std.specs.declared.cmp.Ordering.TheVariants.{Less, Equal, Greater}
use Rattle.std.specs.Ordering.{eq_by_cmp}
use Rattle.std.specs.FinMap.{find, put}
use Rattle.std.specs.FinMap.Entries.{by_order}
use Rattle.std.proofs.lemmas.List.Elements.{All-cons}
use Rattle.store.specs.Pages.{up_to_limit}
use Rattle.store.proofs.Listings.{In}

pub in_map : {X Y : Type 0} (f : X → Y) (xs : List X) (x : X) → In xs x → In (map f xs) (f x)
in_map f [] x i = absurd i
in_map f (y ∷ ys) x (inl e) = inl (ap f e)
in_map f (y ∷ ys) x (inr i) = inr (in_map f ys x i)

pub from_map : {X Y : Type 0} (f : X → Y) (xs : List X) (y : Y) → In (map f xs) y → (x : X) × In xs x × (f x ≡ y)
from_map f [] y i = absurd i
from_map f (x ∷ xs) y (inl e) = (x, inl refl, e)
from_map f (x ∷ xs) y (inr i) = let k = from_map f xs y i in (k.0, inr k.1, k.2)

in_cond : {X : Type 0} (b : Bool) (x y : X) (ys : List X) → b ≡ true → (y ≡ x) ⊎ In ys x → In (cond b (y ∷ ys) ys) x
in_cond true x y ys t i = i
in_cond false x y ys t i = cc

in_later : {X : Type 0} (b : Bool) (x y : X) (ys : List X) → In ys x → In (cond b (y ∷ ys) ys) x
in_later true x y ys i = inr i
in_later false x y ys i = i

pub in_filter : {X : Type 0} (p : X → Bool) (xs : List X) (x : X) → In xs x → p x ≡ true → In (filter p xs) x
in_filter p [] x i t = absurd i
in_filter p (y ∷ ys) x (inl e) t = in_cond (p y) x y (filter p ys) (ap p e ∙ t) (inl e)
in_filter p (y ∷ ys) x (inr i) t = in_later (p y) x y (filter p ys) (in_filter p ys x i t)

pub from_filter : {X : Type 0} (p : X → Bool) (xs : List X) (x : X) → In (filter p xs) x → In xs x × (p x ≡ true)
from_filter p [] x i = absurd i
from_filter p (y ∷ ys) x i = by (p y) refl (from_filter p ys x) i
  where
    by : (b : Bool) → p y ≡ b → (In (filter p ys) x → In ys x × (p x ≡ true)) → In (cond b (y ∷ filter p ys) (filter p ys)) x → In (y ∷ ys) x × (p x ≡ true)
    by true t rest (inl e) = (inl e, ap p (sym e) ∙ t)
    by true t rest (inr k) = let r = rest k in (inr r.0, r.1)
    by false t rest k = let r = rest k in (inr r.0, r.1)

pub from_take : {X : Type 0} (n : ℕ) (xs : List X) (x : X) → In (take n xs) x → In xs x
from_take zero xs x i = absurd i
from_take (suc n) [] x i = absurd i
from_take (suc n) (y ∷ ys) x (inl e) = inl e
from_take (suc n) (y ∷ ys) x (inr i) = inr (from_take n ys x i)

pub from_limited : {X : Type 0} (limit : Option ℕ) (xs : List X) (x : X) → In (up_to_limit limit xs) x → In xs x
from_limited None xs x i = i
from_limited (Some n) xs x i = from_take n xs x i

-- what is put in order is what was put in or what was there
from_put_by : {V : Type 0} (o : Ordering) (k : ℕ) (v : V) (e : ℕ × V) (es later : List (ℕ × V)) (x : V) → (In (map (λ f. f.1) later) x → (v ≡ x) ⊎ In (map (λ f. f.1) es) x)
    → In (map (λ f. f.1) (by_order o ((k, v) ∷ e ∷ es) ((e.0, v) ∷ es) (e ∷ later))) x → (v ≡ x) ⊎ In (map (λ f. f.1) (e ∷ es)) x
from_put_by Less k v e es later x h (inl i) = inl i
from_put_by Less k v e es later x h (inr i) = inr i
from_put_by Equal k v e es later x h (inl i) = inl i
from_put_by Equal k v e es later x h (inr i) = inr (inr i)
from_put_by Greater k v e es later x h (inl i) = inr (inl i)
from_put_by Greater k v e es later x h (inr i) = elim (h i) as (λ _. (v ≡ x) ⊎ In (map (λ f. f.1) (e ∷ es)) x) [ inl j ↦ inl j | inr j ↦ inr (inr j) ]

pub from_put : {V : Type 0} (k : ℕ) (v : V) (es : List (ℕ × V)) (x : V) → In (map (λ f. f.1) (put nat_cmp k v es)) x → (v ≡ x) ⊎ In (map (λ f. f.1) es) x
from_put k v [] x (inl i) = inl i
from_put k v [] x (inr i) = absurd i
from_put k v (e ∷ es) x i = from_put_by (nat_cmp k e.0) k v e es (put nat_cmp k v es) x (from_put k v es x) i

pub in_found_at : {V : Type 0} (n : ℕ) (es : List (ℕ × V)) (v : V) → find nat_cmp n es ≡ Some v → In (map (λ f. f.1) es) v
in_found_at n [] v h = cc
in_found_at n (e ∷ es) v h = by (eq_by_cmp nat_cmp n e.0) (in_found_at n es v) h
  where
    by : (b : Bool) → (find nat_cmp n es ≡ Some v → In (map (λ f. f.1) es) v) → cond b (Some e.1) (find nat_cmp n es) ≡ Some v → In (map (λ f. f.1) (e ∷ es)) v
    by true rest k = inl (cc)
    by false rest k = inr (rest k)

-- ---- the same in std's words

pub all_in : {X : Type 0} (P : X → Type 0) (xs : List X) → ((x : X) → In xs x → P x) → All P xs
all_in P [] h = λ k d lt. absurd (omega arith)
all_in P (x ∷ xs) h = All-cons P x xs (h x (inl refl)) (all_in P xs (λ y i. h y (inr i)))

pub in_contained : {X : Type 0} (xs : List X) (x : X) → Contains xs x → In xs x
in_contained [] x c = absurd (omega (arith, c.1))
in_contained (y ∷ ys) x (zero, lt, e) = inl e
in_contained (y ∷ ys) x (suc k, lt, e) = inr (in_contained ys x (k, omega (arith, lt), e))

pub contained : {X : Type 0} (xs : List X) (x : X) → In xs x → Contains xs x
contained [] x i = absurd i
contained (y ∷ ys) x (inl e) = (zero, omega arith, e)
contained (y ∷ ys) x (inr i) = let c = contained ys x i in (suc c.0, omega (arith, c.1), c.2)
