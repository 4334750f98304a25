-- Entries put in the order of their keys: what std's maps make of them, and which keys come of it.
use Rattle.std.proofs.Common.{◌≡◌, true, cond, is_eq, List, [], ◌∷◌, ◌++◌, map, Ordering, Some, None, refl, sym, ap, ◌∙◌}
use Rattle.std.proofs.lemmas.Map.{lookup-none}
use Rattle.std.proofs.lemmas.Map.Entries.{none_below_head}
use Rattle.std.proofs.lemmas.Map.Keys.{sorted_tail}
use Rattle.std.specs.declared.cmp.Ordering.TheVariants.{Less, Equal, Greater}
use Rattle.std.specs.Prelude.{⊤}
use Rattle.std.specs.BTreeMap.{insert_entry, is_at}
use Rattle.std.specs.Cmp.{IsTotalOrder}
use Rattle.std.specs.List.Sorted.{IsStrictlySortedBy}
use Rattle.std.specs.Map.{keys_of, lookup, set_value}
use Rattle.std.specs.Ordering.{match_ordering}
use Rattle.std.specs.FinMap.{find, is_sorted, put}
use Rattle.std.specs.FinMap.Entries.{below_all, by_order}
use Rattle.tree.proofs.RevisionText.{parts}
use Rattle.tree.proofs.SortedEntries.{less}
use Rattle.store.specs.Plain.{keys_put, value_in}

module _ {K X : Type 0} (R : K → K → Ordering) where
  pub insert_entry-put : (k : K) (v : X) (es : List (K × X)) → insert_entry R es k v ≡ put R k v es
  insert_entry-put k v [] = refl
  insert_entry-put k v (e ∷ es) = by (insert_entry-put k v es) (R k e.0)
    where
      by : insert_entry R es k v ≡ put R k v es → (o : Ordering) → match_ordering o ((k, v) ∷ e ∷ es) ((e.0, v) ∷ es) (e ∷ insert_entry R es k v) ≡ by_order o ((k, v) ∷ e ∷ es) ((e.0, v) ∷ es) (e ∷ put R k v es)
      by later Less = refl
      by later Equal = refl
      by later Greater = ap (λ rest. e ∷ rest) later

  -- a value written over another at a key that stands there
  pub set_value-put : (k : K) (v w : X) (es : List (K × X)) → value_in R k es ≡ Some v → set_value (is_at (R k)) es w ≡ put R k w es
  set_value-put k v w [] h = absurd cc
  set_value-put k v w (e ∷ es) h = by (set_value-put k v w es) (R k e.0) h
    where
      by : (value_in R k es ≡ Some v → set_value (is_at (R k)) es w ≡ put R k w es) → (o : Ordering) → by_order o None (Some e.1) (value_in R k es) ≡ Some v
          → cond (is_eq o) ((e.0, w) ∷ es) (e ∷ set_value (is_at (R k)) es w) ≡ by_order o ((k, w) ∷ e ∷ es) ((e.0, w) ∷ es) (e ∷ put R k w es)
      by later Less is = absurd cc
      by later Equal is = refl
      by later Greater is = ap (λ rest. e ∷ rest) (later is)

  pub value_in-lookup : IsTotalOrder R → (k : K) (es : List (K × X)) → IsStrictlySortedBy R (keys_of es) → value_in R k es ≡ lookup (is_at (R k)) es
  value_in-lookup o k [] h = refl
  value_in-lookup o k (e ∷ es) h = by (value_in-lookup o k es (sorted_tail R e.0 (keys_of es) h)) (R k e.0) refl
    where
      by : value_in R k es ≡ lookup (is_at (R k)) es → (r : Ordering) → R k e.0 ≡ r → by_order r None (Some e.1) (value_in R k es) ≡ cond (is_eq r) (Some e.1) (lookup (is_at (R k)) es)
      by later Less is = sym (lookup-none (is_at (R k)) (e ∷ es) (none_below_head o k e es h is)) ∙ ap (λ r. cond (is_eq r) (Some e.1) (lookup (is_at (R k)) es)) is
      by later Equal is = refl
      by later Greater is = later

  pub keys_put-push : (es : List (K × X)) (e : K × X) (among : List (K × ⊤)) → keys_put R (es ++ e ∷ []) among ≡ keys_put R es (put R e.0 tt among)
  keys_put-push [] e among = refl
  keys_put-push (f ∷ es) e among = ap (put R f.0 tt) (keys_put-push es e among)

-- ---- the value at a key among entries in order is the one that is found

below_none : {K X : Type 0} (R : K → K → Ordering) → IsTotalOrder R → (k y : K) (es : List (K × X)) → R k y ≡ Less → below_all R y es ≡ true → find R k es ≡ None
below_none R o k y [] less_y h = refl
below_none R o k y (e ∷ es) less_y h =
    let both = parts _ _ h in
    ap (λ r. cond (is_eq r) (Some e.1) (find R k es)) (o.trans k y e.0 less_y (less _ both.0)) ∙ below_none R o k y es less_y both.1

value_by : {K X : Type 0} (R : K → K → Ordering) → IsTotalOrder R → (k : K) (e : K × X) (es : List (K × X)) (r : Ordering) → R k e.0 ≡ r → below_all R e.0 es ≡ true → value_in R k es ≡ find R k es
    → by_order r None (Some e.1) (value_in R k es) ≡ cond (is_eq r) (Some e.1) (find R k es)
value_by R o k e es Less is below later = sym (below_none R o k e.0 es is below)
value_by R o k e es Equal is below later = refl
value_by R o k e es Greater is below later = later

pub value_in-find : {K X : Type 0} (R : K → K → Ordering) → IsTotalOrder R → (k : K) (es : List (K × X)) → is_sorted R es ≡ true → value_in R k es ≡ find R k es
value_in-find R o k [] h = refl
value_in-find R o k (e ∷ es) h = let both = parts _ _ h in value_by R o k e es (R k e.0) refl both.0 (value_in-find R o k es both.1)

-- ---- the same key put among entries with equal keys

same_keys_by : {K X Y : Type 0} (r : Ordering) (k a : K) (v x : X) (w y : Y) (es es' : List (K × X)) (fs fs' : List (K × Y)) → map (λ e. e.0) es ≡ map (λ f. f.0) fs → map (λ e. e.0) es' ≡ map (λ f. f.0) fs'
    → map (λ e. e.0) (by_order r ((k, v) ∷ (a, x) ∷ es) ((a, v) ∷ es) ((a, x) ∷ es')) ≡ map (λ f. f.0) (by_order r ((k, w) ∷ (a, y) ∷ fs) ((a, w) ∷ fs) ((a, y) ∷ fs'))
same_keys_by Less k a v x w y es es' fs fs' here later = ap (λ ks. k ∷ a ∷ ks) here
same_keys_by Equal k a v x w y es es' fs fs' here later = ap (λ ks. a ∷ ks) here
same_keys_by Greater k a v x w y es es' fs fs' here later = ap (λ ks. a ∷ ks) later

pub same_keys_put : {K X Y : Type 0} (R : K → K → Ordering) (k : K) (v : X) (w : Y) (es : List (K × X)) (fs : List (K × Y)) → map (λ e. e.0) es ≡ map (λ f. f.0) fs
    → map (λ e. e.0) (put R k v es) ≡ map (λ f. f.0) (put R k w fs)
same_keys_put R k v w [] [] h = refl
same_keys_put R k v w [] (f ∷ fs) h = absurd cc
same_keys_put R k v w (e ∷ es) [] h = absurd cc
same_keys_put R k v w (e ∷ es) (f ∷ fs) h =
    let head : f.0 ≡ e.0 = cc in
    let tail : map (λ g. g.0) es ≡ map (λ g. g.0) fs = cc in
    same_keys_by (R k e.0) k e.0 v e.1 w f.1 es (put R k v es) fs (put R k w fs) tail (same_keys_put R k v w es fs tail)
    ∙ ap (λ a. map (λ g. g.0) (by_order (R k a) ((k, w) ∷ (a, f.1) ∷ fs) ((a, w) ∷ fs) ((a, f.1) ∷ put R k w fs))) (sym head)
