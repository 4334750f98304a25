-- Where a name stands in a list, and what stands there.
use Rattle.std.proofs.Common.{ℕ, zero, suc, ◌≡◌, ◌∙◌, ◌+◌, ◌++◌, Bool, true, false, cond, List, [], ◌∷◌, Option, Some, None, map, refl, sym, ap, arith, bytes_eq}
use Rattle.std.specs.Prelude.{is_some, slice_set}
use Rattle.std.specs.List.{slice_get}
use Rattle.lab.specs.Naming.{NamedValue, named_of, place_named, value_named, with_named}
use Rattle.lab.specs.declared.named.Named.{Named}

none_or_later : {A : Type 0} (b : Bool) (n : ℕ) (name : List ℕ) (e : NamedValue A) (es : List (NamedValue A)) → (place_named (n + 1) name es ≡ None → value_named name es ≡ None)
    → cond b (Some n) (place_named (n + 1) name es) ≡ None → cond b (Some e.value) (value_named name es) ≡ None
none_or_later true n name e es later p = absurd cc
none_or_later false n name e es later p = later p

-- a name without a place is new
pub value_named-none : {A : Type 0} (n : ℕ) (name : List ℕ) (es : List (NamedValue A)) → place_named n name es ≡ None → value_named name es ≡ None
value_named-none n name [] p = refl
value_named-none n name (e ∷ es) p = none_or_later (bytes_eq name e.name) n name e es (value_named-none (n + 1) name es) p

-- what stands at the place of a name, behind the first n
record Stands {A : Type 0} (n : ℕ) (name : List ℕ) (es : List (NamedValue A)) (k : ℕ) : Type 0 where
  pub behind : ℕ
  pub sum : k ≡ n + behind
  pub entry : NamedValue A
  pub there : slice_get es behind ≡ Some entry
  pub value : value_named name es ≡ Some entry.value
  pub changed : (v : A) → slice_set es behind (record entry { value = v }) ≡ with_named name v es

here_or_later : {A : Type 0} (b : Bool) (n k : ℕ) (name : List ℕ) (e : NamedValue A) (es : List (NamedValue A)) → bytes_eq name e.name ≡ b
    → (place_named (n + 1) name es ≡ Some k → Stands (n + 1) name es k) → cond b (Some n) (place_named (n + 1) name es) ≡ Some k → Stands n name (e ∷ es) k
here_or_later true n k name e es is later p = record {
  behind = 0;
  sum = (let same : n ≡ k = cc in omega (arith, same));
  entry = e;
  there = refl;
  value = rw is refl;
  changed = λ v. rw is refl;
}
here_or_later false n k name e es is later p = let s = later p in record {
  behind = suc s.behind;
  sum = omega (arith, s.sum);
  entry = s.entry;
  there = s.there;
  value = rw is s.value;
  changed = λ v. rw is (ap (λ xs. e ∷ xs) (s.changed v));
}

stands_at : {A : Type 0} (n k : ℕ) (name : List ℕ) (es : List (NamedValue A)) → place_named n name es ≡ Some k → Stands n name es k
stands_at n k name [] p = absurd cc
stands_at n k name (e ∷ es) p = here_or_later (bytes_eq name e.name) n k name e es refl (stands_at (n + 1) k name es) p

slice_get-map : {A B : Type 0} (f : A → B) (xs : List A) (i : ℕ) (x : A) → slice_get xs i ≡ Some x → slice_get (map f xs) i ≡ Some (f x)
slice_get-map f [] i x e = absurd cc
slice_get-map f (z ∷ xs) zero x e = let same : z ≡ x = cc in ap (λ w. Some (f w)) same
slice_get-map f (z ∷ xs) (suc i) x e = slice_get-map f xs i x e

slice_set-map : {A B : Type 0} (f : A → B) (xs : List A) (i : ℕ) (x : A) → map f (slice_set xs i x) ≡ slice_set (map f xs) i (f x)
slice_set-map f [] i x = refl
slice_set-map f (z ∷ xs) zero x = refl
slice_set-map f (z ∷ xs) (suc i) x = ap (λ ws. f z ∷ ws) (slice_set-map f xs i x)

-- an entry of the program at the place of a name
pub record IsAt {T : Type 0} (es : List (Named T)) (name : List ℕ) (k : ℕ) (e : Named T) : Type 0 where
  pub value : value_named name (map named_of es) ≡ Some e.value
  pub changed : (v : T) → map named_of (slice_set es k (record e { value = v })) ≡ with_named name v (map named_of es)

pub is_at : {T : Type 0} (es : List (Named T)) (name : List ℕ) (k : ℕ) (e : Named T) → place_named 0 name (map named_of es) ≡ Some k → slice_get es k ≡ Some e → IsAt es name k e
is_at {T} es name k e p there =
    let s = stands_at 0 k name (map named_of es) p in
    let place : k ≡ s.behind = omega (arith, s.sum) in
    let got : Some s.entry ≡ Some (named_of e) = sym s.there ∙ ap (slice_get (map named_of es)) (sym place) ∙ slice_get-map named_of es k e there in
    let same : s.entry ≡ named_of e = cc in
    record {
      value = s.value ∙ ap (λ (x : NamedValue T). Some x.value) same;
      changed = λ v. slice_set-map named_of es k (record e { value = v })
          ∙ ap (λ i. slice_set (map named_of es) i (named_of (record e { value = v }))) place
          ∙ ap (λ (x : NamedValue T). slice_set (map named_of es) s.behind (record x { value = v })) (sym same) ∙ s.changed v;
    }

-- one more entry
pub named_push : {T : Type 0} (es : List (Named T)) (e : Named T) → map named_of (es ++ e ∷ []) ≡ map named_of es ++ named_of e ∷ []
named_push [] e = refl
named_push (x ∷ es) e = ap (λ xs. named_of x ∷ xs) (named_push es e)

place_or_later : {A : Type 0} (b : Bool) (n : ℕ) (place : Option ℕ) (value : A) (later : Option A) → is_some place ≡ is_some later → is_some (cond b (Some n) place) ≡ is_some (cond b (Some value) later)
place_or_later true n place value later p = refl
place_or_later false n place value later p = p

-- a name has a place where it has a value
pub place_named-some : {A : Type 0} (n : ℕ) (name : List ℕ) (es : List (NamedValue A)) → is_some (place_named n name es) ≡ is_some (value_named name es)
place_named-some n name [] = refl
place_named-some n name (e ∷ es) =
    place_or_later (bytes_eq name e.name) n (place_named (n + 1) name es) e.value (value_named name es) (place_named-some (n + 1) name es)

pub not_none : {A : Type 0} (o : Option A) (x : A) → o ≡ Some x → is_some o ≡ false → ⊥
not_none None x p e = absurd cc
not_none (Some y) x p e = absurd cc

pub none_of : {A : Type 0} (o : Option A) → is_some o ≡ false → o ≡ None
none_of None p = refl
none_of (Some x) p = absurd cc
