-- Documents that match, put at their places, hang only on which of them are among the ids.
use Rattle.std.proofs.Common.{◌≡◌, ◌⊎◌, ℕ, true, List, [], ◌∷◌, Option, Some, None, Ordering, nat_cmp, option_map, refl, sym, ap, subst, ◌∙◌, inl, inr}
use Rattle.std.specs.declared.cmp.Ordering.TheVariants.{Less, Equal, Greater}
use Rattle.std.specs.Cmp.{IsTotalOrder, first_so, second_so, tied_itself}
use Rattle.std.specs.Cmp.Lexicographic.{slice_cmp}
use Rattle.std.specs.FinMap.{is_sorted, put, nat_cmp-IsAntisymmetric, slice_cmp-IsAntisymmetric}
use Rattle.std.specs.FinMap.Entries.{by_order}
use Rattle.std.specs.Ordering.{ordering_then}
use Rattle.couch_json.specs.Collation.{collation}
use Rattle.couch_json.specs.Value.{Items, Value, array}
use Rattle.couch_json.proofs.Orders.{collation_tied}
use Rattle.store.proofs.Listings.{In}
use Rattle.store.specs.Database.{Database}
use Rattle.store.specs.Indexes.{IndexPlace, field_values, place_order, put_at_values, put_in_index}
use Rattle.store.specs.PlaceOrder.{place_order_total}
use Rattle.find.proofs.Filtered.{below}
use Rattle.find.proofs.Indexed.{sorted_put}
use Rattle.find.specs.inner.Candidates.{put_candidates}
use Rattle.find.specs.inner.Matching.{match_in}

-- ---- sorted entries

before_itself : {K : Type 0} (R : K → K → Ordering) → IsTotalOrder R → (k : K) → R k k ≡ Less → ⊥
before_itself R total k lt = let tie = tied_itself total k in let both : Less ≡ Equal = sym lt ∙ tie in cc

first_one : {K X : Type 0} (R : K → K → Ordering) → IsTotalOrder R → (e f : K × X) (es fs : List (K × X)) → is_sorted R (e ∷ es) ≡ true → is_sorted R (f ∷ fs) ≡ true → In (f ∷ fs) e → In (e ∷ es) f → e ≡ f
first_one R total e f es fs h g (inl i) j = sym i
first_one R total e f es fs h g (inr i) (inl j) = j
first_one R total e f es fs h g (inr i) (inr j) =
    absurd (before_itself R total e.0 (total.trans e.0 f.0 e.0 (below R e.0 es (first_so _ _ h) f j) (below R f.0 fs (first_so _ _ g) e i)))

later_one : {K X : Type 0} (R : K → K → Ordering) → IsTotalOrder R → (e f x : K × X) (es fs : List (K × X)) → is_sorted R (e ∷ es) ≡ true → e ≡ f → In es x → In (f ∷ fs) x → In fs x
later_one R total e f x es fs h same i (inl j) =
    absurd (before_itself R total e.0 (ap (λ y. R e.0 y.0) (same ∙ j) ∙ below R e.0 es (first_so _ _ h) x i))
later_one R total e f x es fs h same i (inr j) = j

-- sorted entries are told by what is among them
one_list : {K X : Type 0} (R : K → K → Ordering) → IsTotalOrder R → (es fs : List (K × X)) → is_sorted R es ≡ true → is_sorted R fs ≡ true
    → ((x : K × X) → In es x → In fs x) → ((x : K × X) → In fs x → In es x) → es ≡ fs
one_list R total [] [] h g there back = refl
one_list R total [] (f ∷ fs) h g there back = absurd (back f (inl refl))
one_list R total (e ∷ es) [] h g there back = absurd (there e (inl refl))
one_list R total (e ∷ es) (f ∷ fs) h g there back =
    let first = first_one R total e f es fs h g (there e (inl refl)) (back f (inl refl)) in
    let rest = one_list R total es fs (second_so _ _ h) (second_so _ _ g) (λ x i. later_one R total e f x es fs h first i (there x (inr i)))
    (λ x i. later_one R total f e x fs es g (sym first) i (back x (inr i))) in
    λ i. first i ∷ rest i

-- ---- an entry that is put, where only equal keys tie

from_by : {K X : Type 0} (o : Ordering) (k : K) (v : X) (e : K × X) (es later : List (K × X)) (x : K × X) → (o ≡ Equal → k ≡ e.0) → (In later x → ((k, v) ≡ x) ⊎ In es x)
    → In (by_order o ((k, v) ∷ e ∷ es) ((e.0, v) ∷ es) (e ∷ later)) x → ((k, v) ≡ x) ⊎ In (e ∷ es) x
from_by Less k v e es later x same h i = i
from_by Equal k v e es later x same h (inl i) = inl (ap (λ q. (q, v)) (same refl) ∙ i)
from_by Equal k v e es later x same h (inr i) = inr (inr i)
from_by Greater k v e es later x same h (inl i) = inr (inl i)
from_by Greater k v e es later x same h (inr i) = elim (h i) as (λ _. ((k, v) ≡ x) ⊎ In (e ∷ es) x) [ inl j ↦ inl j | inr j ↦ inr (inr j) ]

from_put : {K X : Type 0} (R : K → K → Ordering) → ((a b : K) → R a b ≡ Equal → a ≡ b) → (k : K) (v : X) (es : List (K × X)) (x : K × X) → In (put R k v es) x → ((k, v) ≡ x) ⊎ In es x
from_put R exact k v [] x i = i
from_put R exact k v (e ∷ es) x i = from_by (R k e.0) k v e es (put R k v es) x (exact k e.0) (from_put R exact k v es x) i

into_by : {K X : Type 0} (o : Ordering) (k : K) (v : X) (e : K × X) (es later : List (K × X)) → (o ≡ Equal → k ≡ e.0) → In later (k, v) → In (by_order o ((k, v) ∷ e ∷ es) ((e.0, v) ∷ es) (e ∷ later)) (k, v)
into_by Less k v e es later same h = inl refl
into_by Equal k v e es later same h = inl (ap (λ q. (q, v)) (sym (same refl)))
into_by Greater k v e es later same h = inr h

into_put : {K X : Type 0} (R : K → K → Ordering) → ((a b : K) → R a b ≡ Equal → a ≡ b) → (k : K) (v : X) (es : List (K × X)) → In (put R k v es) (k, v)
into_put R exact k v [] = inl refl
into_put R exact k v (e ∷ es) = into_by (R k e.0) k v e es (put R k v es) (exact k e.0) (into_put R exact k v es)

kept_by : {K X : Type 0} (o : Ordering) (k : K) (v : X) (e : K × X) (es later : List (K × X)) (x : K × X) → (o ≡ Equal → k ≡ e.0) → (k ≡ x.0 → (k, v) ≡ x) → (In es x → In later x)
    → In (e ∷ es) x → In (by_order o ((k, v) ∷ e ∷ es) ((e.0, v) ∷ es) (e ∷ later)) x
kept_by Less k v e es later x same own h i = inr i
kept_by Equal k v e es later x same own h (inl i) = inl (ap (λ q. (q, v)) (sym (same refl)) ∙ own (same refl ∙ ap (λ y. y.0) i))
kept_by Equal k v e es later x same own h (inr i) = inr i
kept_by Greater k v e es later x same own h (inl i) = inl i
kept_by Greater k v e es later x same own h (inr i) = inr (h i)

kept_put : {K X : Type 0} (R : K → K → Ordering) → ((a b : K) → R a b ≡ Equal → a ≡ b) → (k : K) (v : X) (es : List (K × X)) (x : K × X) → (k ≡ x.0 → (k, v) ≡ x) → In es x → In (put R k v es) x
kept_put R exact k v [] x own i = absurd i
kept_put R exact k v (e ∷ es) x own i = kept_by (R k e.0) k v e es (put R k v es) x (exact k e.0) own (kept_put R exact k v es x own) i

-- ---- places that tie are one

both_equal : (a b : Ordering) → ordering_then a b ≡ Equal → (a ≡ Equal) × (b ≡ Equal)
both_equal Less b e = absurd cc
both_equal Equal b e = (refl, e)
both_equal Greater b e = absurd cc

pub exact : (p q : IndexPlace) → place_order p q ≡ Equal → p ≡ q
exact p q e =
    let both = both_equal (collation p.key q.key) (slice_cmp nat_cmp p.id q.id) e in
    let key = collation_tied p.key q.key both.0 in
    let id = slice_cmp-IsAntisymmetric nat_cmp-IsAntisymmetric p.id q.id both.1 in
    λ i. record { key = key i; id = id i }

-- ---- documents that match

-- the entry is that of a document, which is seen so, at its values and its id
abbrev IsAt : List (List ℕ) → List ℕ → Option Value → IndexPlace × Value → Type 0
IsAt fields id o x = (o ≡ Some x.1) × (option_map array (field_values fields x.1) ≡ Some x.0.key) × (id ≡ x.0.id)

-- the entry is that of a document that matches
abbrev pub IsMatch : List (List ℕ) → Value → Database → IndexPlace × Value → Type 0
IsMatch fields selector db x = (match_in selector db x.0.id ≡ Some x.1) × (option_map array (field_values fields x.1) ≡ Some x.0.key)

module _ (fields : List (List ℕ)) where
  pub from_one : (id : List ℕ) (o : Option Value) (es : List (IndexPlace × Value)) (x : IndexPlace × Value) → In (put_in_index fields id o es) x → IsAt fields id o x ⊎ In es x
  from_one id None es x i = inr i
  from_one id (Some v) es x i = by (field_values fields v) refl i
    where
      by : (values : Option Items) → field_values fields v ≡ values → In (put_at_values id v values es) x → IsAt fields id (Some v) x ⊎ In es x
      by None none j = inr j
      by (Some values) has j = elim (from_put place_order exact (record { key = array values; id = id }) v es x j) as (λ _. IsAt fields id (Some v) x ⊎ In es x) [
        | inl same ↦ inl (ap (λ y. Some y.1) same, (ap (λ y. option_map array (field_values fields y.1)) (sym same) ∙ ap (option_map array) has ∙ ap (λ y. Some y.0.key) same), ap (λ y. y.0.id) same)
        | inr k ↦ inr k
      ]

  into_one : (id : List ℕ) (o : Option Value) (es : List (IndexPlace × Value)) (x : IndexPlace × Value) → IsAt fields id o x → In (put_in_index fields id o es) x
  into_one id o es x h =
      subst (λ p. In (put_in_index fields id p es) x) (sym h.0) (by (field_values fields x.1) refl)
    where
      by : (values : Option Items) → field_values fields x.1 ≡ values → In (put_at_values id x.1 values es) x
      by None none = let key : None ≡ Some x.0.key = ap (option_map array) (sym none) ∙ h.1 in absurd cc
      by (Some values) has =
          let key : Some (array values) ≡ Some x.0.key = ap (option_map array) (sym has) ∙ h.1 in
          let same : array values ≡ x.0.key = cc in
          let place : (record { key = array values; id = id }, x.1) ≡ x = λ i. (record { key = same i; id = h.2 i }, x.1) in
          subst (In (put place_order (record { key = array values; id = id }) x.1 es)) place (into_put place_order exact (record { key = array values; id = id }) x.1 es)

  kept_one : (id : List ℕ) (o : Option Value) (es : List (IndexPlace × Value)) (x : IndexPlace × Value) → (id ≡ x.0.id → o ≡ Some x.1) → In es x → In (put_in_index fields id o es) x
  kept_one id None es x own i = i
  kept_one id (Some v) es x own i = by (field_values fields v)
    where
      by : (values : Option Items) → In (put_at_values id v values es) x
      by None = i
      by (Some values) =
          kept_put place_order exact (record { key = array values; id = id }) v es x
          (λ same. let is = own (ap (λ (p : IndexPlace). p.id) same) in let value : v ≡ x.1 = cc in λ j. (same j, value j)) i

  module _ (selector : Value) (db : Database) where
    pub from_all : (ids : List (List ℕ)) (es : List (IndexPlace × Value)) (x : IndexPlace × Value) → In (put_candidates fields selector db ids es) x → IsMatch fields selector db x ⊎ In es x
    from_all [] es x i = inr i
    from_all (id ∷ ids) es x i = elim (from_all ids (put_in_index fields id (match_in selector db id) es) x i) as (λ _. IsMatch fields selector db x ⊎ In es x) [
      | inl h ↦ inl h
      | inr j ↦ elim (from_one id (match_in selector db id) es x j) as (λ _. IsMatch fields selector db x ⊎ In es x) [
        | inl h ↦ inl (ap (match_in selector db) (sym h.2) ∙ h.0, h.1)
        | inr k ↦ inr k
      ]
    ]

    kept_all : (ids : List (List ℕ)) (es : List (IndexPlace × Value)) (x : IndexPlace × Value) → IsMatch fields selector db x → In es x → In (put_candidates fields selector db ids es) x
    kept_all [] es x h i = i
    kept_all (id ∷ ids) es x h i =
        kept_all ids (put_in_index fields id (match_in selector db id) es) x h (kept_one id (match_in selector db id) es x (λ same. ap (match_in selector db) same ∙ h.0) i)

    into_all : (ids : List (List ℕ)) (es : List (IndexPlace × Value)) (x : IndexPlace × Value) → IsMatch fields selector db x → In ids x.0.id → In (put_candidates fields selector db ids es) x
    into_all [] es x h i = absurd i
    into_all (id ∷ ids) es x h (inl i) =
        kept_all ids (put_in_index fields id (match_in selector db id) es) x h (into_one id (match_in selector db id) es x (ap (match_in selector db) i ∙ h.0, h.1, i))
    into_all (id ∷ ids) es x h (inr i) = into_all ids (put_in_index fields id (match_in selector db id) es) x h i

    sorted_all : (ids : List (List ℕ)) (es : List (IndexPlace × Value)) → is_sorted place_order es ≡ true → is_sorted place_order (put_candidates fields selector db ids es) ≡ true
    sorted_all [] es h = h
    sorted_all (id ∷ ids) es h = sorted_all ids (put_in_index fields id (match_in selector db id) es) (sorted_put fields id (match_in selector db id) es h)

    -- the ids of all documents that match are among these
    abbrev pub HasMatches : List (List ℕ) → Type 0
    HasMatches ids = (x : IndexPlace × Value) → IsMatch fields selector db x → In ids x.0.id

    among : (ids others : List (List ℕ)) → HasMatches others → (x : IndexPlace × Value) → In (put_candidates fields selector db ids []) x → In (put_candidates fields selector db others []) x
    among ids others all x i = elim (from_all ids [] x i) as (λ _. In (put_candidates fields selector db others []) x) [ inl h ↦ into_all others [] x h (all x h) | inr j ↦ absurd j ]

    pub covered : (ids others : List (List ℕ)) → HasMatches ids → HasMatches others → put_candidates fields selector db ids [] ≡ put_candidates fields selector db others []
    covered ids others h g =
        one_list place_order place_order_total (put_candidates fields selector db ids []) (put_candidates fields selector db others []) (sorted_all ids [] refl) (sorted_all others [] refl)
        (among ids others g) (among others ids h)
