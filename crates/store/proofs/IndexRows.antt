-- The rows of an index beside the documents of the database.
use Rattle.std.proofs.Common.{◌≡◌, ◌⊎◌, ℕ, List, [], ◌∷◌, AllPairs, map, true, Option, Some, None, option_map, Ordering, nat_cmp, refl, sym, ap, subst, ◌∙◌, inl, inr, arith}
use Rattle.std.proofs.Math.Dec.{T}
use Rattle.std.proofs.lemmas.List.Kept.{AllPairs-cons}
use Rattle.std.specs.declared.cmp.Ordering.TheVariants.{Less, Equal, Greater}
use Rattle.std.specs.Cmp.{first_so, second_so}
use Rattle.std.specs.Cmp.Lexicographic.{slice_cmp}
use Rattle.std.specs.Ordering.{ordering_then}
use Rattle.std.specs.FinMap as finite
use Rattle.std.specs.FinMap.{is_sorted, put, nat_cmp-IsAntisymmetric, slice_cmp-IsAntisymmetric}
use Rattle.std.specs.FinMap.Entries.{below_all, by_order, is_sorted-put}
use Rattle.couch_json.specs.Collation.{collation}
use Rattle.couch_json.specs.Value.{Items, Value, array}
use Rattle.couch_json.proofs.Orders.{collation_tied}
use Rattle.tree.proofs.Kept.{true_from_T}
use Rattle.tree.proofs.SortedEntries.{less}
use Rattle.store.specs.Database.{Database}
use Rattle.store.specs.Indexes.{IndexPlace, IsPlaceOf, field_values, index_over, index_rows, place_order, put_at_values, put_in_index, queried_document}
use Rattle.store.specs.PlaceOrder.{place_order_total}
use Rattle.store.specs.Plain.{places_over}
use Rattle.store.proofs.Among.{all_in}
use Rattle.store.proofs.Listings.{Entry, In, found_in, in_found}

-- ---- the keys of entries that are put in order

abbrev pub firsts : {K V : Type 0} → List (K × V) → List K
firsts es = map (λ e. e.0) es

from_put_by : {K V : Type 0} (o : Ordering) (k : K) (v : V) (e : K × V) (es later : List (K × V)) (x : K) → (In (firsts later) x → (k ≡ x) ⊎ In (firsts es) x)
    → In (firsts (by_order o ((k, v) ∷ e ∷ es) ((e.0, v) ∷ es) (e ∷ later))) x → (k ≡ x) ⊎ In (firsts (e ∷ es)) x
from_put_by Less k v e es later x h (inl i) = inl i
from_put_by Less k v e es later x h (inr i) = inr i
from_put_by Equal k v e es later x h i = inr i
from_put_by Greater k v e es later x h (inl i) = inr (inl i)
from_put_by Greater k v e es later x h (inr i) = elim (h i) as (λ _. (k ≡ x) ⊎ In (firsts (e ∷ es)) x) [ inl j ↦ inl j | inr j ↦ inr (inr j) ]

from_put : {K V : Type 0} (R : K → K → Ordering) (k : K) (v : V) (es : List (K × V)) (x : K) → In (firsts (put R k v es)) x → (k ≡ x) ⊎ In (firsts es) x
from_put R k v [] x (inl i) = inl i
from_put R k v [] x (inr i) = absurd i
from_put R k v (e ∷ es) x i = from_put_by (R k e.0) k v e es (put R k v es) x (from_put R k v es x) i

old_by : {K V : Type 0} (o : Ordering) (k : K) (v : V) (e : K × V) (es later : List (K × V)) (x : K) → (In (firsts es) x → In (firsts later) x)
    → In (firsts (e ∷ es)) x → In (firsts (by_order o ((k, v) ∷ e ∷ es) ((e.0, v) ∷ es) (e ∷ later))) x
old_by Less k v e es later x h i = inr i
old_by Equal k v e es later x h i = i
old_by Greater k v e es later x h (inl i) = inl i
old_by Greater k v e es later x h (inr i) = inr (h i)

-- keys that were there stay
old_put : {K V : Type 0} (R : K → K → Ordering) (k : K) (v : V) (es : List (K × V)) (x : K) → In (firsts es) x → In (firsts (put R k v es)) x
old_put R k v [] x i = absurd i
old_put R k v (e ∷ es) x i = old_by (R k e.0) k v e es (put R k v es) x (old_put R k v es x) i

new_by : {K V : Type 0} (o : Ordering) (k : K) (v : V) (e : K × V) (es later : List (K × V)) → (o ≡ Equal → k ≡ e.0) → In (firsts later) k
    → In (firsts (by_order o ((k, v) ∷ e ∷ es) ((e.0, v) ∷ es) (e ∷ later))) k
new_by Less k v e es later same h = inl refl
new_by Equal k v e es later same h = inl (sym (same refl))
new_by Greater k v e es later same h = inr h

-- the key is there, where only equal keys tie
new_put : {K V : Type 0} (R : K → K → Ordering) → ((x y : K) → R x y ≡ Equal → x ≡ y) → (k : K) (v : V) (es : List (K × V)) → In (firsts (put R k v es)) k
new_put R exact k v [] = inl refl
new_put R exact k v (e ∷ es) = new_by (R k e.0) k v e es (put R k v es) (exact k e.0) (new_put R exact k v es)

below_key : {K V : Type 0} (R : K → K → Ordering) (k : K) (es : List (K × V)) (x : K) → below_all R k es ≡ true → In (firsts es) x → R k x ≡ Less
below_key R k [] x h i = absurd i
below_key R k (e ∷ es) x h (inl i) = ap (R k) (sym i) ∙ less _ (first_so _ _ h)
below_key R k (e ∷ es) x h (inr i) = below_key R k es x (second_so _ _ h) i

keys_ascend : {K V : Type 0} (R : K → K → Ordering) (es : List (K × V)) → is_sorted R es ≡ true → AllPairs (λ a b. R a b ≡ Less) (firsts es)
keys_ascend R [] h = λ i j d lt within. absurd (omega arith)
keys_ascend R (e ∷ es) h =
    AllPairs-cons (λ a b. R a b ≡ Less) e.0 (firsts es) (all_in (λ b. R e.0 b ≡ Less) (firsts es) (λ b i. below_key R e.0 es b (first_so _ _ h) i)) (keys_ascend R es (second_so _ _ h))

-- ---- places that tie are one

both_equal : (a b : Ordering) → ordering_then a b ≡ Equal → (a ≡ Equal) × (b ≡ Equal)
both_equal Less b e = absurd cc
both_equal Equal b e = (refl, e)
both_equal Greater b e = absurd cc

exact : (x y : IndexPlace) → place_order x y ≡ Equal → x ≡ y
exact x y e =
    let both = both_equal (collation x.key y.key) (slice_cmp nat_cmp x.id y.id) e in
    let key = collation_tied x.key y.key both.0 in
    let id = slice_cmp-IsAntisymmetric nat_cmp-IsAntisymmetric x.id y.id both.1 in
    λ i. record { key = key i; id = id i }

-- ---- the places of one document

sorted_values : (id : List ℕ) (d : Value) (vs : Option Items) (among : List (IndexPlace × Value)) → T (is_sorted place_order among) → T (is_sorted place_order (put_at_values id d vs among))
sorted_values id d None among h = h
sorted_values id d (Some vs) among h = is_sorted-put place_order place_order_total (record { key = array vs; id = id }) d among h

sorted_document : (fields : List (List ℕ)) (id : List ℕ) (o : Option Value) (among : List (IndexPlace × Value)) → T (is_sorted place_order among)
    → T (is_sorted place_order (put_in_index fields id o among))
sorted_document fields id None among h = h
sorted_document fields id (Some d) among h = sorted_values id d (field_values fields d) among h

sorted_index : (fields : List (List ℕ)) (es : List Entry) → T (is_sorted place_order (index_over fields es))
sorted_index fields [] = tt
sorted_index fields (e ∷ es) = sorted_document fields e.0 (queried_document e.0 e.1.history) (index_over fields es) (sorted_index fields es)

-- a document that is looked at so has this place
abbrev HasPlace : List (List ℕ) → List ℕ → Option Value → IndexPlace → Type 0
HasPlace fields id o p = (shown : Value) × (o ≡ Some shown) × (option_map array (field_values fields shown) ≡ Some p.key) × (id ≡ p.id)

from_values : (id : List ℕ) (d : Value) (vs : Option Items) (among : List (IndexPlace × Value)) (p : IndexPlace) → In (firsts (put_at_values id d vs among)) p
    → ((option_map array vs ≡ Some p.key) × (id ≡ p.id)) ⊎ In (firsts among) p
from_values id d None among p i = inr i
from_values id d (Some vs) among p i =
    elim (from_put place_order (record { key = array vs; id = id }) d among p i) as (λ _. ((Some (array vs) ≡ Some p.key) × (id ≡ p.id)) ⊎ In (firsts among) p) [
      | inl e ↦ inl (ap (λ (q : IndexPlace). Some q.key) e, ap (λ (q : IndexPlace). q.id) e)
      | inr k ↦ inr k
    ]

from_document : (fields : List (List ℕ)) (id : List ℕ) (o : Option Value) (among : List (IndexPlace × Value)) (p : IndexPlace) → In (firsts (put_in_index fields id o among)) p
    → HasPlace fields id o p ⊎ In (firsts among) p
from_document fields id None among p i = inr i
from_document fields id (Some d) among p i =
    elim (from_values id d (field_values fields d) among p i) as (λ _. HasPlace fields id (Some d) p ⊎ In (firsts among) p) [ inl h ↦ inl (d, refl, h.0, h.1) | inr k ↦ inr k ]

from_index : (fields : List (List ℕ)) (es : List Entry) (p : IndexPlace) → In (places_over fields es) p → (e : Entry) × In es e × HasPlace fields e.0 (queried_document e.0 e.1.history) p
from_index fields [] p i = absurd i
from_index fields (e ∷ es) p i =
    elim (from_document fields e.0 (queried_document e.0 e.1.history) (index_over fields es) p i) as (λ _. (f : Entry) × In (e ∷ es) f × HasPlace fields f.0 (queried_document f.0 f.1.history) p) [
      | inl h ↦ (e, inl refl, h)
      | inr k ↦ let r = from_index fields es p k in (r.0, inr r.1, r.2)
    ]

into_values : (id : List ℕ) (d : Value) (vs : Option Items) (among : List (IndexPlace × Value)) (p : IndexPlace) → option_map array vs ≡ Some p.key → id ≡ p.id
    → In (firsts (put_at_values id d vs among)) p
into_values id d None among p k s = absurd cc
into_values id d (Some vs) among p k s =
    let key : array vs ≡ p.key = cc in
    let place : record { key = array vs; id = id } ≡ p = λ i. record { key = key i; id = s i } in
    subst (λ q. In (firsts (put place_order (record { key = array vs; id = id }) d among)) q) place (new_put place_order exact (record { key = array vs; id = id }) d among)

into_document : (fields : List (List ℕ)) (id : List ℕ) (o : Option Value) (among : List (IndexPlace × Value)) (p : IndexPlace) → HasPlace fields id o p → In (firsts (put_in_index fields id o among)) p
into_document fields id None among p h = let never = h.1 in absurd cc
into_document fields id (Some d) among p h =
    let is = h.1 in
    let same : d ≡ h.0 = cc in
    into_values id d (field_values fields d) among p (ap (λ v. option_map array (field_values fields v)) same ∙ h.2) h.3

stays_values : (id : List ℕ) (d : Value) (vs : Option Items) (among : List (IndexPlace × Value)) (p : IndexPlace) → In (firsts among) p → In (firsts (put_at_values id d vs among)) p
stays_values id d None among p i = i
stays_values id d (Some vs) among p i = old_put place_order (record { key = array vs; id = id }) d among p i

stays_document : (fields : List (List ℕ)) (id : List ℕ) (o : Option Value) (among : List (IndexPlace × Value)) (p : IndexPlace) → In (firsts among) p → In (firsts (put_in_index fields id o among)) p
stays_document fields id None among p i = i
stays_document fields id (Some d) among p i = stays_values id d (field_values fields d) among p i

into_index : (fields : List (List ℕ)) (es : List Entry) (e : Entry) (p : IndexPlace) → In es e → HasPlace fields e.0 (queried_document e.0 e.1.history) p → In (places_over fields es) p
into_index fields [] e p i h = absurd i
into_index fields (f ∷ es) e p (inl s) h =
    into_document fields f.0 (queried_document f.0 f.1.history) (index_over fields es) p (subst (λ (g : Entry). HasPlace fields g.0 (queried_document g.0 g.1.history) p) (sym s) h)
into_index fields (f ∷ es) e p (inr i) h = stays_document fields f.0 (queried_document f.0 f.1.history) (index_over fields es) p (into_index fields es e p i h)

-- ---- the rows

pub rows_ascend : (fields : List (List ℕ)) (db : Database) → AllPairs (λ a b. place_order a b ≡ Less) (index_rows fields db)
rows_ascend fields db = keys_ascend place_order (index_over fields (finite.entries db.documents)) (true_from_T _ (sorted_index fields (finite.entries db.documents)))

pub place_from : (fields : List (List ℕ)) (db : Database) (p : IndexPlace) → In (index_rows fields db) p → IsPlaceOf fields db p
place_from fields db p i =
    let es = finite.entries db.documents in
    let r = from_index fields es p i in
    let e = r.0 in
    let h = r.2 in
    record {
      document = e.1;
      there = ap (finite.get db.documents) (sym h.3) ∙ finite.get-entries db.documents e.0 ∙ in_found es e (true_from_T _ (finite.entries_sorted db.documents)) r.1;
      shown = h.0;
      looked_at = ap (λ k. queried_document k e.1.history) (sym h.3) ∙ h.1;
      values = h.2;
    }

pub place_there : (fields : List (List ℕ)) (db : Database) (p : IndexPlace) → IsPlaceOf fields db p → In (index_rows fields db) p
place_there fields db p h =
    let es = finite.entries db.documents in
    let i = found_in es p.id h.document (sym (finite.get-entries db.documents p.id) ∙ h.there) in
    into_index fields es (p.id, h.document) p i (h.shown, h.looked_at, h.values, refl)
