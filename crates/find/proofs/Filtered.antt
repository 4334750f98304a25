-- Entries in the order of their keys: what is put in and then filtered is what is filtered and then put in.
use Rattle.std.proofs.Common.{◌≡◌, Bool, true, false, cond, List, [], ◌∷◌, Ordering, filter, map, refl, sym, ap, subst, ◌∙◌, inl, inr}
use Rattle.std.specs.declared.cmp.Ordering.TheVariants.{Less, Equal, Greater}
use Rattle.std.specs.Cmp.{IsTotalOrder, first_so, second_so}
use Rattle.std.specs.FinMap.{is_sorted, put}
use Rattle.std.specs.FinMap.Entries.{below_all, by_order}
use Rattle.tree.proofs.SortedEntries.{less}
use Rattle.store.proofs.Among.{from_filter}
use Rattle.store.proofs.Listings.{In}

-- each key is such
abbrev pub HasKeys : {K X : Type 0} → (K → Type 0) → List (K × X) → Type 0
HasKeys {K} {X} P es = (e : K × X) → In es e → P e.0

keys_by : {K X : Type 0} (P : K → Type 0) (o : Ordering) (k : K) (v : X) (e : K × X) (es later : List (K × X)) → P k → HasKeys P (e ∷ es) → HasKeys P later
    → HasKeys P (by_order o ((k, v) ∷ e ∷ es) ((e.0, v) ∷ es) (e ∷ later))
keys_by P Less k v e es later p h rest x (inl i) = subst (λ y. P y.0) i p
keys_by P Less k v e es later p h rest x (inr i) = h x i
keys_by P Equal k v e es later p h rest x (inl i) = subst (λ y. P y.0) i (h e (inl refl))
keys_by P Equal k v e es later p h rest x (inr i) = h x (inr i)
keys_by P Greater k v e es later p h rest x (inl i) = h x (inl i)
keys_by P Greater k v e es later p h rest x (inr i) = rest x i

one_key : {K X : Type 0} (P : K → Type 0) (k : K) (v : X) → P k → HasKeys P ((k, v) ∷ [])
one_key P k v p x (inl i) = subst (λ y. P y.0) i p
one_key P k v p x (inr i) = absurd i

pub keys_put : {K X : Type 0} (R : K → K → Ordering) (P : K → Type 0) (k : K) (v : X) (es : List (K × X)) → P k → HasKeys P es → HasKeys P (put R k v es)
keys_put R P k v [] p h = one_key P k v p
keys_put R P k v (e ∷ es) p h = keys_by P (R k e.0) k v e es (put R k v es) p h (keys_put R P k v es p (λ x i. h x (inr i)))

-- what is before all others goes to the front
pub put_front : {K X : Type 0} (R : K → K → Ordering) (k : K) (v : X) (es : List (K × X)) → HasKeys (λ q. R k q ≡ Less) es → put R k v es ≡ (k, v) ∷ es
put_front R k v [] h = refl
put_front R k v (e ∷ es) h = ap (λ o. by_order o ((k, v) ∷ e ∷ es) ((e.0, v) ∷ es) (e ∷ put R k v es)) (h e (inl refl))

pub below : {K X : Type 0} (R : K → K → Ordering) (k : K) (es : List (K × X)) → below_all R k es ≡ true → HasKeys (λ q. R k q ≡ Less) es
below R k [] h x i = absurd i
below R k (e ∷ es) h x (inl i) = subst (λ y. R k y.0 ≡ Less) i (less _ (first_so _ _ h))
below R k (e ∷ es) h x (inr i) = below R k es (second_so _ _ h) x i

-- before the first is before all
before_all : {K X : Type 0} (R : K → K → Ordering) → IsTotalOrder R → (k : K) (e : K × X) (es : List (K × X)) → R k e.0 ≡ Less → is_sorted R (e ∷ es) ≡ true
    → HasKeys (λ q. R k q ≡ Less) (e ∷ es)
before_all R total k e es lt h x (inl i) = subst (λ y. R k y.0 ≡ Less) i lt
before_all R total k e es lt h x (inr i) = total.trans k e.0 x.0 lt (below R e.0 es (first_so _ _ h) x i)

-- a key that ties with none goes in among those that pass, if its own value passes
pub filter-put : {K X : Type 0} (R : K → K → Ordering) → IsTotalOrder R → (p : X → Bool) (k : K) (v : X) (es : List (K × X)) → is_sorted R es ≡ true → HasKeys (λ q. R k q ≡ Equal → ⊥) es
    → filter (λ e. p e.1) (put R k v es) ≡ cond (p v) (put R k v (filter (λ e. p e.1) es)) (filter (λ e. p e.1) es)
filter-put R total p k v [] sorted new = refl
filter-put {K} {X} R total p k v (e ∷ es) sorted new =
    by (R k e.0) refl (filter-put R total p k v es (second_so _ _ sorted) (λ x i. new x (inr i)))
  where
    passing : List (K × X) → List (K × X)
    passing xs = filter (λ x. p x.1) xs

    later : (b : Bool) → R k e.0 ≡ Greater → passing (put R k v es) ≡ cond (p v) (put R k v (passing es)) (passing es)
        → cond b (e ∷ passing (put R k v es)) (passing (put R k v es)) ≡ cond (p v) (put R k v (cond b (e ∷ passing es) (passing es))) (cond b (e ∷ passing es) (passing es))
    later false gt rest = rest
    later true gt rest = ap (λ xs. e ∷ xs) rest ∙ apart (p v)
      where
        apart : (c : Bool) → e ∷ cond c (put R k v (passing es)) (passing es) ≡ cond c (put R k v (e ∷ passing es)) (e ∷ passing es)
        apart true = ap (λ o. by_order o ((k, v) ∷ e ∷ passing es) ((e.0, v) ∷ passing es) (e ∷ put R k v (passing es))) (sym gt)
        apart false = refl

    by : (o : Ordering) → R k e.0 ≡ o → passing (put R k v es) ≡ cond (p v) (put R k v (passing es)) (passing es)
        → passing (by_order o ((k, v) ∷ e ∷ es) ((e.0, v) ∷ es) (e ∷ put R k v es)) ≡ cond (p v) (put R k v (passing (e ∷ es))) (passing (e ∷ es))
    by Less lt rest =
        ap (λ xs. cond (p v) xs (passing (e ∷ es)))
        (sym (put_front R k v (passing (e ∷ es)) (λ x i. before_all R total k e es lt sorted x (from_filter (λ (y : K × X). p y.1) (e ∷ es) x i).0)))
    by Equal eq rest = absurd (new e (inl refl) eq)
    by Greater gt rest = later (p e.1) gt rest

pub filter-seconds : {K X : Type 0} (p : X → Bool) (es : List (K × X)) → filter p (map (λ e. e.1) es) ≡ map (λ e. e.1) (filter (λ e. p e.1) es)
filter-seconds p [] = refl
filter-seconds p (e ∷ es) = by (p e.1) (filter-seconds p es)
  where
    by : (b : Bool) → filter p (map (λ e. e.1) es) ≡ map (λ e. e.1) (filter (λ e. p e.1) es)
        → cond b (e.1 ∷ filter p (map (λ e. e.1) es)) (filter p (map (λ e. e.1) es)) ≡ map (λ e. e.1) (cond b (e ∷ filter (λ e. p e.1) es) (filter (λ e. p e.1) es))
    by true rest = ap (λ vs. e.1 ∷ vs) rest
    by false rest = rest
