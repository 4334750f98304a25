-- The documents of an index are those that queries look at and that have all its fields.
use Rattle.std.proofs.Common.{◌≡◌, ◌⊎◌, ◌≤◌, ℕ, zero, suc, true, List, [], ◌∷◌, Ordering, Option, Some, None, drop, length, map, take, refl, sym, ap, subst, ◌∙◌, inl, inr, arith}
use Rattle.std.specs.declared.cmp.Ordering.TheVariants.{Less, Equal, Greater}
use Rattle.std.specs.Cmp.{first_so, second_so}
use Rattle.std.specs.Cmp.Lexicographic.{slice_cmp}
use Rattle.std.specs.FinMap as finite
use Rattle.std.specs.FinMap.{is_sorted, put}
use Rattle.std.specs.FinMap.Entries.{by_order}
use Rattle.std.specs.Ordering.{nat_cmp}
use Rattle.couch_json.specs.Collation.{collation}
use Rattle.couch_json.specs.Value.{Value, Items, array}
use Rattle.selector.specs.Truth.{selector_matches}
use Rattle.tree.proofs.Kept.{true_from_T}
use Rattle.store.proofs.Among.{from_filter, from_take, in_filter}
use Rattle.store.proofs.Listings.{Entry, In, found_in, in_found}
use Rattle.store.specs.Database.{Database}
use Rattle.store.specs.Indexes.{IndexPlace, field_values, index_entries, index_over, place_order, put_at_values, put_in_index}
use Rattle.find.proofs.Filtered.{HasKeys}
use Rattle.find.proofs.Indexed.{After, after_index, not_tied, seen}
use Rattle.store.proofs.Directed.{from_directed, from_drop, in_directed}
use Rattle.find.specs.Found.{IsFindable, found_documents, matching_documents, sorted_documents}
use Rattle.find.specs.declared.query.Query.{Query}

-- ---- values that are put in

abbrev seconds : {K X : Type 0} → List (K × X) → List X
seconds es = map (λ e. e.1) es

from_by : {K X : Type 0} (o : Ordering) (k : K) (v : X) (e : K × X) (es later : List (K × X)) (x : X) → (In (seconds later) x → (v ≡ x) ⊎ In (seconds es) x)
    → In (seconds (by_order o ((k, v) ∷ e ∷ es) ((e.0, v) ∷ es) (e ∷ later))) x → (v ≡ x) ⊎ In (seconds (e ∷ es)) x
from_by Less k v e es later x h (inl i) = inl i
from_by Less k v e es later x h (inr i) = inr i
from_by Equal k v e es later x h (inl i) = inl i
from_by Equal k v e es later x h (inr i) = inr (inr i)
from_by Greater k v e es later x h (inl i) = inr (inl i)
from_by Greater k v e es later x h (inr i) = elim (h i) as (λ _. (v ≡ x) ⊎ In (seconds (e ∷ es)) x) [ inl j ↦ inl j | inr j ↦ inr (inr j) ]

from_put : {K X : Type 0} (R : K → K → Ordering) (k : K) (v : X) (es : List (K × X)) (x : X) → In (seconds (put R k v es)) x → (v ≡ x) ⊎ In (seconds es) x
from_put R k v [] x (inl i) = inl i
from_put R k v [] x (inr i) = absurd i
from_put R k v (e ∷ es) x i = from_by (R k e.0) k v e es (put R k v es) x (from_put R k v es x) i

own_by : {K X : Type 0} (o : Ordering) (k : K) (v : X) (e : K × X) (es later : List (K × X)) → In (seconds later) v → In (seconds (by_order o ((k, v) ∷ e ∷ es) ((e.0, v) ∷ es) (e ∷ later))) v
own_by Less k v e es later h = inl refl
own_by Equal k v e es later h = inl refl
own_by Greater k v e es later h = inr h

own_put : {K X : Type 0} (R : K → K → Ordering) (k : K) (v : X) (es : List (K × X)) → In (seconds (put R k v es)) v
own_put R k v [] = inl refl
own_put R k v (e ∷ es) = own_by (R k e.0) k v e es (put R k v es) (own_put R k v es)

kept_by : {K X : Type 0} (o : Ordering) (k : K) (v : X) (e : K × X) (es later : List (K × X)) (x : X) → (o ≡ Equal → ⊥) → (In (seconds es) x → In (seconds later) x)
    → In (seconds (e ∷ es)) x → In (seconds (by_order o ((k, v) ∷ e ∷ es) ((e.0, v) ∷ es) (e ∷ later))) x
kept_by Less k v e es later x new h i = inr i
kept_by Equal k v e es later x new h i = absurd (new refl)
kept_by Greater k v e es later x new h (inl i) = inl i
kept_by Greater k v e es later x new h (inr i) = inr (h i)

kept_put : {K X : Type 0} (R : K → K → Ordering) (k : K) (v : X) (es : List (K × X)) (x : X) → HasKeys (λ q. R k q ≡ Equal → ⊥) es → In (seconds es) x → In (seconds (put R k v es)) x
kept_put R k v [] x new i = absurd i
kept_put R k v (e ∷ es) x new i = kept_by (R k e.0) k v e es (put R k v es) x (new e (inl refl)) (kept_put R k v es x (λ y j. new y (inr j))) i

-- ---- the documents of an index

-- the entry that shows the document, which has the fields
record IsFrom (fields : List (List ℕ)) (es : List Entry) (v : Value) : Type 0 where
  entry : Entry
  among : In es entry
  is : seen entry ≡ Some v
  values : Items
  has : field_values fields v ≡ Some values

later : (fields : List (List ℕ)) (e : Entry) (es : List Entry) (v : Value) → IsFrom fields es v → IsFrom fields (e ∷ es) v
later fields e es v h = record { entry = h.entry; among = inr h.among; is = h.is; values = h.values; has = h.has }

from_one : (fields : List (List ℕ)) (e : Entry) (es : List Entry) (o : Option Value) (entries : List (IndexPlace × Value)) (v : Value) → seen e ≡ o → (In (seconds entries) v → IsFrom fields es v)
    → In (seconds (put_in_index fields e.0 o entries)) v → IsFrom fields (e ∷ es) v
from_one fields e es None entries v is rest = λ i. later fields e es v (rest i)
from_one fields e es (Some w) entries v is rest = by (field_values fields w) refl
  where
    by : (values : Option Items) → field_values fields w ≡ values → In (seconds (put_at_values e.0 w values entries)) v → IsFrom fields (e ∷ es) v
    by None none i = later fields e es v (rest i)
    by (Some values) has i = elim (from_put place_order (record { key = array values; id = e.0 }) w entries v i) as (λ _. IsFrom fields (e ∷ es) v) [
      | inl same ↦ record { entry = e; among = inl refl; is = is ∙ ap Some same; values = values; has = ap (field_values fields) (sym same) ∙ has }
      | inr j ↦ later fields e es v (rest j)
    ]

from_index : (fields : List (List ℕ)) (es : List Entry) (v : Value) → In (seconds (index_over fields es)) v → IsFrom fields es v
from_index fields [] v i = absurd i
from_index fields (e ∷ es) v i = from_one fields e es (seen e) (index_over fields es) v refl (from_index fields es v) i

kept_one : (fields : List (List ℕ)) (id : List ℕ) (o : Option Value) (entries : List (IndexPlace × Value)) (v : Value) → HasKeys (After id) entries → In (seconds entries) v → In (seconds (put_in_index fields id o entries)) v
kept_one fields id None entries v after i = i
kept_one fields id (Some w) entries v after i = by (field_values fields w)
  where
    by : (values : Option Items) → In (seconds (put_at_values id w values entries)) v
    by None = i
    by (Some values) = kept_put place_order (record { key = array values; id = id }) w entries v (λ x j t. not_tied (collation (array values) x.0.key) (slice_cmp nat_cmp id x.0.id) (after x j) t) i

own_one : (fields : List (List ℕ)) (id : List ℕ) (o : Option Value) (entries : List (IndexPlace × Value)) (v : Value) (values : Items) → o ≡ Some v → field_values fields v ≡ Some values → In (seconds (put_in_index fields id o entries)) v
own_one fields id o entries v values is has =
    subst (λ (p : Option Value). In (seconds (put_in_index fields id p entries)) v) (sym is)
    (subst (λ (vs : Option Items). In (seconds (put_at_values id v vs entries)) v) (sym has) (own_put place_order (record { key = array values; id = id }) v entries))

in_index : (fields : List (List ℕ)) (es : List Entry) (e : Entry) (v : Value) (values : Items) → is_sorted (slice_cmp nat_cmp) es ≡ true → In es e → seen e ≡ Some v → field_values fields v ≡ Some values
    → In (seconds (index_over fields es)) v
in_index fields [] e v values h i is has = absurd i
in_index fields (f ∷ es) e v values h (inl i) is has = own_one fields f.0 (seen f) (index_over fields es) v values (ap seen i ∙ is) has
in_index fields (f ∷ es) e v values h (inr i) is has =
    kept_one fields f.0 (seen f) (index_over fields es) v (after_index fields f.0 es (first_so _ _ h)) (in_index fields es e v values (second_so _ _ h) i is has)

-- ---- turned and cut

all_taken : {X : Type 0} (n : ℕ) (xs : List X) → length xs ≤ n → take n xs ≡ xs
all_taken zero [] le = refl
all_taken zero (x ∷ xs) le = absurd (omega (arith, le))
all_taken (suc n) [] le = refl
all_taken (suc n) (x ∷ xs) le = ap (λ ys. x ∷ ys) (all_taken n xs (omega (arith, le)))

-- ---- both ways

pub findable : (query : Query) (db : Database) (v : Value) → In (found_documents query db) v → IsFindable query db v
findable query db v i =
    let es = finite.entries db.documents in
    let passed = from_filter (λ (w : Value). selector_matches query.selector w) (sorted_documents query.sort query.descending db) v (from_drop query.skip _ v (from_take query.limit _ v i)) in
    let h = from_index query.sort es v (from_directed query.descending (seconds (index_entries query.sort db)) v passed.0) in
    record {
      id = h.entry.0;
      document = h.entry.1;
      there = finite.get-entries db.documents h.entry.0 ∙ in_found es h.entry (true_from_T _ (finite.entries_sorted db.documents)) h.among;
      shown = h.is;
      values = h.values;
      has = h.has;
      matches = passed.1;
    }

pub found : (query : Query) (db : Database) (v : Value) → query.skip ≡ 0 → length (matching_documents query db) ≤ query.limit → IsFindable query db v → In (found_documents query db) v
found query db v no_skip fits h =
    let es = finite.entries db.documents in
    let i = found_in es h.id h.document (sym (finite.get-entries db.documents h.id) ∙ h.there) in
    let stands = in_index query.sort es (h.id, h.document) v h.values (true_from_T _ (finite.entries_sorted db.documents)) i h.shown h.has in
    let all = matching_documents query db in
    let passed = in_filter (λ (w : Value). selector_matches query.selector w) (sorted_documents query.sort query.descending db) v (in_directed query.descending (seconds (index_entries query.sort db)) v stands) h.matches in
    subst (λ ws. In ws v) (sym (ap (λ n. take query.limit (drop n all)) no_skip ∙ all_taken query.limit all fits)) passed
