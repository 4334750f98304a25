-- A sort by fields, of which one may stand there twice, is that by each of them once.
use Rattle.std.proofs.Common.{◌≡◌, ◌≤◌, ◌<◌, ◌&&◌, ◌||◌, arith, length, Bool, true, false, cond, bytes_eq, ℕ, zero, suc, List, [], ◌∷◌, ◌++◌, take, Ordering, Option, Some, None, map, option_map, append-nil, append_assoc, refl, sym, ap, ap₂, subst, ◌∙◌, inl, inr}
use Rattle.std.proofs.lemmas.Slice.Eq.{bytes_eq-Decides}
use Rattle.std.specs.FinMap.{put}
use Rattle.std.specs.FinMap.Entries.{by_order}
use Rattle.std.specs.Cmp.Lexicographic.{slice_cmp}
use Rattle.std.specs.Ordering.{nat_cmp, ordering_then}
use Rattle.std.specs.Prelude.{is_some}
use Rattle.std.specs.declared.cmp.Ordering.TheVariants.{Less, Equal, Greater}
use Rattle.couch_json.specs.Collation.{collation, items_collation}
use Rattle.couch_json.specs.FieldPath.{value_at}
use Rattle.couch_json.specs.Value.{Items, Value, array, item, no_items}
use Rattle.store.proofs.Listings.{In}
use Rattle.store.specs.Database.{Database}
use Rattle.store.specs.Indexes.{IndexPlace, field_values, place_order, put_at_values, put_in_index, values_with}
use Rattle.find.proofs.Covered.{exact, from_one}
use Rattle.find.specs.inner.Candidates.{put_candidates}
use Rattle.find.specs.inner.Kept.{distinct, distinct_with, is_among, most_compared}
use Rattle.find.specs.inner.Matching.{match_in}

-- a first part that is as long as it may be
pub same_take : {A : Type 0} (xs : List A) (m n : ℕ) → m ≤ n → (m < n → length xs ≤ m) → take m xs ≡ take n xs
same_take [] zero zero le all = refl
same_take [] zero (suc n) le all = refl
same_take [] (suc m) zero le all = refl
same_take [] (suc m) (suc n) le all = refl
same_take (x ∷ xs) zero zero le all = refl
same_take (x ∷ xs) zero (suc n) le all = absurd (omega (arith, all (omega arith)))
same_take (x ∷ xs) (suc m) zero le all = absurd (omega (arith, le))
same_take (x ∷ xs) (suc m) (suc n) le all = ap (λ ys. x ∷ ys) (same_take xs m n (omega (arith, le)) (λ less. omega (arith, all (omega (arith, less)))))

-- ---- what goes over fields, and passes over one that came before

module _ {X : Type 0} (step : List ℕ → X → X) (end : X) where
  abbrev total : List (List ℕ) → X
  total [] = end
  total (f ∷ fs) = step f (total fs)

  -- behind a field it counts for nothing
  abbrev Absorbs : Type 0
  Absorbs = (f : List ℕ) (gs fs : List (List ℕ)) → step f (total (gs ++ f ∷ fs)) ≡ step f (total (gs ++ fs))

  repeated : Absorbs → (f : List ℕ) (kept fs : List (List ℕ)) → is_among f kept ≡ true → total (kept ++ f ∷ fs) ≡ total (kept ++ fs)
  repeated absorbs f [] fs h = absurd cc
  repeated absorbs f (g ∷ gs) fs h = by (repeated absorbs f gs fs) (bytes_eq f g) refl h
    where
      by : (is_among f gs ≡ true → total (gs ++ f ∷ fs) ≡ total (gs ++ fs)) → (b : Bool) → bytes_eq f g ≡ b → b || is_among f gs ≡ true → step g (total (gs ++ f ∷ fs)) ≡ step g (total (gs ++ fs))
      by later true is e = subst (λ k. step k (total (gs ++ f ∷ fs)) ≡ step k (total (gs ++ fs))) ((bytes_eq-Decides f g).0 is) (absorbs f gs fs)
      by later false is e = ap (step g) (later e)

  among_first : (n : ℕ) (f : List ℕ) (kept : List (List ℕ)) → is_among f (take n kept) ≡ true → is_among f kept ≡ true
  among_first zero f kept h = absurd cc
  among_first (suc n) f [] h = absurd cc
  among_first (suc n) f (g ∷ gs) h = by (among_first n f gs) (bytes_eq f g) h
    where
      by : (is_among f (take n gs) ≡ true → is_among f gs ≡ true) → (b : Bool) → b || is_among f (take n gs) ≡ true → b || is_among f gs ≡ true
      by later true e = refl
      by later false e = later e

  distinct_total : Absorbs → (kept fs : List (List ℕ)) → total (distinct_with kept fs) ≡ total (kept ++ fs)
  distinct_total absorbs kept [] = ap total (sym (append-nil kept))
  distinct_total absorbs kept (f ∷ fs) = by (λ ks. distinct_total absorbs ks fs) (is_among f (take most_compared kept)) refl
    where
      by : ((ks : List (List ℕ)) → total (distinct_with ks fs) ≡ total (ks ++ fs)) → (b : Bool) → is_among f (take most_compared kept) ≡ b → total (distinct_with (cond b kept (kept ++ f ∷ [])) fs) ≡ total (kept ++ f ∷ fs)
      by later true is = later kept ∙ sym (repeated absorbs f kept fs (among_first most_compared f kept is))
      by later false is = later (kept ++ f ∷ []) ∙ ap total (append_assoc kept (f ∷ []) fs)

-- ---- how two documents stand to each other

abbrev order_at : Option Value → Option Value → Ordering
order_at None w = Equal
order_at (Some a) None = Equal
order_at (Some a) (Some b) = collation a b

abbrev next_order : Value → Value → List ℕ → Ordering → Ordering
next_order v w f o = ordering_then (order_at (value_at f v) (value_at f w)) o

abbrev orders : List (List ℕ) → Value → Value → Ordering
orders fs v w = total (next_order v w) Equal fs

then_again : (a : Ordering) (gs : List (List ℕ)) (x y : Ordering) → (a ≡ Equal → x ≡ y) → ordering_then a x ≡ ordering_then a y
then_again Less gs x y h = refl
then_again Equal gs x y h = h refl
then_again Greater gs x y h = refl

tied_later : (v w : Value) (f : List ℕ) (gs fs : List (List ℕ)) → order_at (value_at f v) (value_at f w) ≡ Equal → orders (gs ++ f ∷ fs) v w ≡ orders (gs ++ fs) v w
tied_later v w f [] fs tie = ap (λ o. ordering_then o (orders fs v w)) tie
tied_later v w f (g ∷ gs) fs tie = ap (next_order v w g) (tied_later v w f gs fs tie)

distinct_orders : (fs : List (List ℕ)) (v w : Value) → orders (distinct fs) v w ≡ orders fs v w
distinct_orders fs v w =
    distinct_total (next_order v w) Equal
    (λ f gs hs. then_again (order_at (value_at f v) (value_at f w)) gs (orders (gs ++ f ∷ hs) v w) (orders (gs ++ hs) v w) (tied_later v w f gs hs)) [] fs

values_order : (fs : List (List ℕ)) (v w : Value) (ks ls : Items) → field_values fs v ≡ Some ks → field_values fs w ≡ Some ls → items_collation ks ls ≡ orders fs v w
values_order [] v w ks ls a b = let k : no_items ≡ ks = cc in let l : no_items ≡ ls = cc in ap₂ items_collation (sym k) (sym l)
values_order (f ∷ fs) v w ks ls a b = by (values_order fs v w) (value_at f v) (field_values fs v) refl (value_at f w) (field_values fs w) refl a b
  where
    by : ((ms ns : Items) → field_values fs v ≡ Some ms → field_values fs w ≡ Some ns → items_collation ms ns ≡ orders fs v w)
        → (x : Option Value) (xs : Option Items) → field_values fs v ≡ xs → (y : Option Value) (ys : Option Items) → field_values fs w ≡ ys
        → values_with x xs ≡ Some ks → values_with y ys ≡ Some ls → items_collation ks ls ≡ ordering_then (order_at x y) (orders fs v w)
    by later None xs hx y ys hy e g = absurd cc
    by later (Some p) None hx y ys hy e g = absurd cc
    by later (Some p) (Some ps) hx None ys hy e g = absurd cc
    by later (Some p) (Some ps) hx (Some q) None hy e g = absurd cc
    by later (Some p) (Some ps) hx (Some q) (Some qs) hy e g =
        let k : item p ps ≡ ks = cc in
        let l : item q qs ≡ ls = cc in
        ap₂ items_collation (sym k) (sym l) ∙ ap (ordering_then (collation p q)) (later ps qs hx hy)

-- ---- which documents have all fields

abbrev next_there : Value → List ℕ → Bool → Bool
next_there v f b = is_some (value_at f v) && b

abbrev are_there : List (List ℕ) → Value → Bool
are_there fs v = total (next_there v) true fs

and_again : (a : Bool) (x y : Bool) → (a ≡ true → x ≡ y) → a && x ≡ a && y
and_again true x y h = h refl
and_again false x y h = refl

there_later : (v : Value) (f : List ℕ) (gs fs : List (List ℕ)) → is_some (value_at f v) ≡ true → are_there (gs ++ f ∷ fs) v ≡ are_there (gs ++ fs) v
there_later v f [] fs is = ap (λ b. b && are_there fs v) is
there_later v f (g ∷ gs) fs is = ap (next_there v g) (there_later v f gs fs is)

distinct_there : (fs : List (List ℕ)) (v : Value) → are_there (distinct fs) v ≡ are_there fs v
distinct_there fs v =
    distinct_total (next_there v) true (λ f gs hs. and_again (is_some (value_at f v)) (are_there (gs ++ f ∷ hs) v) (are_there (gs ++ hs) v) (there_later v f gs hs)) [] fs

have_all : (fs : List (List ℕ)) (v : Value) → is_some (field_values fs v) ≡ are_there fs v
have_all [] v = refl
have_all (f ∷ fs) v = by (value_at f v) (field_values fs v) (have_all fs v)
  where
    by : (x : Option Value) (xs : Option Items) → is_some xs ≡ are_there fs v → is_some (values_with x xs) ≡ is_some x && are_there fs v
    by None xs h = refl
    by (Some p) None h = h
    by (Some p) (Some ps) h = h

distinct_have : (fs : List (List ℕ)) (v : Value) → is_some (field_values (distinct fs) v) ≡ is_some (field_values fs v)
distinct_have fs v = have_all (distinct fs) v ∙ distinct_there fs v ∙ sym (have_all fs v)

-- ---- the places by each field once

abbrev values_or : Option Items → Items
values_or None = no_items
values_or (Some vs) = vs

abbrev once : List (List ℕ) → IndexPlace × Value → IndexPlace
once fs e = record { key = array (values_or (field_values (distinct fs) e.1)); id = e.0.id }

abbrev IsKeyed : List (List ℕ) → IndexPlace × Value → Type 0
IsKeyed fs e = option_map array (field_values fs e.1) ≡ Some e.0.key

abbrev AreKeyed : List (List ℕ) → List (IndexPlace × Value) → Type 0
AreKeyed fs es = (x : IndexPlace × Value) → In es x → IsKeyed fs x

has_key : (o : Option Items) (key : Value) → option_map array o ≡ Some key → (values : Items) × (o ≡ Some values) × (array values ≡ key)
has_key None key e = absurd cc
has_key (Some values) key e = let same : array values ≡ key = cc in (values, refl, same)

some_values : (o : Option Items) → is_some o ≡ true → o ≡ Some (values_or o)
some_values None h = absurd cc
some_values (Some vs) h = refl

there : (fs : List (List ℕ)) (v : Value) (ks : Items) → field_values fs v ≡ Some ks → field_values (distinct fs) v ≡ Some (values_or (field_values (distinct fs) v))
there fs v ks h = some_values (field_values (distinct fs) v) (distinct_have fs v ∙ ap is_some h)

once_order : (fs : List (List ℕ)) (x y : IndexPlace × Value) → IsKeyed fs x → IsKeyed fs y → place_order (once fs x) (once fs y) ≡ place_order x.0 y.0
once_order fs x y h g =
    let k = has_key (field_values fs x.1) x.0.key h in
    let l = has_key (field_values fs y.1) y.0.key g in
    let keys : collation (once fs x).key (once fs y).key ≡ collation x.0.key y.0.key =
    values_order (distinct fs) x.1 y.1 _ _ (there fs x.1 k.0 k.1) (there fs y.1 l.0 l.1) ∙ distinct_orders fs x.1 y.1 ∙ sym (values_order fs x.1 y.1 k.0 l.0 k.1 l.1) ∙ ap₂ collation k.2 l.2 in
    ap (λ o. ordering_then o (slice_cmp nat_cmp x.0.id y.0.id)) keys

abbrev once_all : List (List ℕ) → List (IndexPlace × Value) → List (IndexPlace × Value)
once_all fs es = map (λ e. (once fs e, e.1)) es

once_put : (fs : List (List ℕ)) (x : IndexPlace × Value) (es : List (IndexPlace × Value)) → IsKeyed fs x → AreKeyed fs es
    → put place_order (once fs x) x.1 (once_all fs es) ≡ once_all fs (put place_order x.0 x.1 es)
once_put fs x [] own h = refl
once_put fs x (e ∷ es) own h =
    ap (λ o. by_order o ((once fs x, x.1) ∷ (once fs e, e.1) ∷ once_all fs es) ((once fs e, x.1) ∷ once_all fs es) ((once fs e, e.1) ∷ put place_order (once fs x) x.1 (once_all fs es)))
    (once_order fs x e own (h e (inl refl)))
    ∙ by (place_order x.0 e.0) refl (once_put fs x es own (λ y i. h y (inr i)))
  where
    by : (o : Ordering) → place_order x.0 e.0 ≡ o → put place_order (once fs x) x.1 (once_all fs es) ≡ once_all fs (put place_order x.0 x.1 es)
        → by_order o ((once fs x, x.1) ∷ (once fs e, e.1) ∷ once_all fs es) ((once fs e, x.1) ∷ once_all fs es) ((once fs e, e.1) ∷ put place_order (once fs x) x.1 (once_all fs es))
        ≡ once_all fs (by_order o ((x.0, x.1) ∷ e ∷ es) ((e.0, x.1) ∷ es) (e ∷ put place_order x.0 x.1 es))
    by Less is later = refl
    by Equal is later =
        let one : once fs e ≡ once fs x = sym (exact (once fs x) (once fs e) (once_order fs x e own (h e (inl refl)) ∙ is)) in
        let two : once fs x ≡ once fs (e.0, x.1) = ap (λ (p : IndexPlace). once fs (p, x.1)) (exact x.0 e.0 is) in
        ap (λ p. (p, x.1) ∷ once_all fs es) (one ∙ two)
    by Greater is later = ap (λ ys. (once fs e, e.1) ∷ ys) later

once_one : (fs : List (List ℕ)) (id : List ℕ) (o : Option Value) (es : List (IndexPlace × Value)) → AreKeyed fs es → put_in_index (distinct fs) id o (once_all fs es) ≡ once_all fs (put_in_index fs id o es)
once_one fs id None es h = refl
once_one fs id (Some v) es h = by (field_values fs v) refl
  where
    none_there : (o : Option Items) → is_some o ≡ false → put_at_values id v o (once_all fs es) ≡ once_all fs es
    none_there None e = refl
    none_there (Some vs) e = absurd cc

    by : (o : Option Items) → field_values fs v ≡ o → put_at_values id v (field_values (distinct fs) v) (once_all fs es) ≡ once_all fs (put_at_values id v o es)
    by None is = none_there (field_values (distinct fs) v) (distinct_have fs v ∙ ap is_some is)
    by (Some ks) is =
        ap (λ o. put_at_values id v o (once_all fs es)) (there fs v ks is)
        ∙ once_put fs (record { key = array ks; id = id }, v) es (ap (option_map array) is) h

keyed_one : (fs : List (List ℕ)) (id : List ℕ) (o : Option Value) (es : List (IndexPlace × Value)) → AreKeyed fs es → AreKeyed fs (put_in_index fs id o es)
keyed_one fs id o es h x i = elim (from_one fs id o es x i) as (λ _. IsKeyed fs x) [ inl at ↦ at.1 | inr j ↦ h x j ]

once_candidates : (fs : List (List ℕ)) (selector : Value) (d : Database) (ids : List (List ℕ)) (es : List (IndexPlace × Value)) → AreKeyed fs es
    → put_candidates (distinct fs) selector d ids (once_all fs es) ≡ once_all fs (put_candidates fs selector d ids es)
once_candidates fs selector d [] es h = refl
once_candidates fs selector d (id ∷ ids) es h =
    ap (put_candidates (distinct fs) selector d ids) (once_one fs id (match_in selector d id) es h)
    ∙ once_candidates fs selector d ids (put_in_index fs id (match_in selector d id) es) (keyed_one fs id (match_in selector d id) es h)

seconds : (fs : List (List ℕ)) (es : List (IndexPlace × Value)) → map (λ e. e.1) (once_all fs es) ≡ map (λ e. e.1) es
seconds fs [] = refl
seconds fs (e ∷ es) = ap (λ vs. e.1 ∷ vs) (seconds fs es)

-- the documents in the order of some fields are those in the order of each of them once
pub distinct_candidates : (fs : List (List ℕ)) (selector : Value) (d : Database) (ids : List (List ℕ))
    → map (λ e. e.1) (put_candidates (distinct fs) selector d ids []) ≡ map (λ e. e.1) (put_candidates fs selector d ids [])
distinct_candidates fs selector d ids = ap (map (λ e. e.1)) (once_candidates fs selector d ids [] (λ x i. absurd i)) ∙ seconds fs (put_candidates fs selector d ids [])
