-- The documents of an index stand in the order of their places, and so do those that a query finds.
use Rattle.std.proofs.Common.{◌≡◌, ◌≢◌, ℕ, zero, suc, ◌<◌, Bool, true, false, cond, List, [], ◌∷◌, AllPairs, Ordering, Option, Some, None, get_or, length, map, refl, sym, ap, subst, ◌∙◌, inl, inr, arith}
use Rattle.std.proofs.lemmas.List.Kept.{AllPairs-cons, AllPairs-filter}
use Rattle.std.specs.declared.cmp.Ordering.TheVariants.{Less, Equal, Greater}
use Rattle.std.specs.Cmp.{first_so, second_so}
use Rattle.std.specs.Cmp.Lexicographic.{slice_cmp}
use Rattle.std.specs.FinMap as finite
use Rattle.std.specs.FinMap.{is_sorted, put}
use Rattle.std.specs.FinMap.Entries.{by_order}
use Rattle.std.specs.Ordering.{is_gt, is_lt, nat_cmp, ordering_reverse}
use Rattle.couch_json.specs.Collation.{collation}
use Rattle.couch_json.specs.Value.{Value, Items, array}
use Rattle.selector.specs.Truth.{selector_matches}
use Rattle.tree.proofs.Kept.{true_from_T}
use Rattle.store.proofs.Directed.{pairs_drop, pairs_reverse}
use Rattle.store.proofs.Among.{all_in, from_map}
use Rattle.store.proofs.Listings.{Entry, In}
use Rattle.store.proofs.RowOrders.{pairs_take}
use Rattle.store.specs.Database.{Database}
use Rattle.store.specs.Indexes.{IndexPlace, field_values, index_entries, index_over, place_order, put_at_values, put_in_index, queried_document}
use Rattle.store.specs.PlaceOrder.{place_order_total}
use Rattle.find.proofs.Filtered.{below}
use Rattle.find.proofs.Findables.{findable}
use Rattle.find.proofs.Ids.{id_of-queried_document}
use Rattle.find.proofs.Indexed.{After, after_index, not_tied, seen, sorted_index}
use Rattle.store.specs.Pages.{in_direction}
use Rattle.find.specs.Found.{IsFindable, found_documents, id_of, is_before, place_by, place_of, sorted_documents}
use Rattle.find.specs.declared.query.Query.{Query}

-- ---- each document stands at its place

abbrev IsKeyed : List (List ℕ) → IndexPlace × Value → Type 0
IsKeyed fields x = place_of fields x.1 ≡ Some x.0

abbrev AreKeyed : List (List ℕ) → List (IndexPlace × Value) → Type 0
AreKeyed fields es = (x : IndexPlace × Value) → In es x → IsKeyed fields x

keyed_by : (fields : List (List ℕ)) (o : Ordering) (k : IndexPlace) (v : Value) (e : IndexPlace × Value) (es later : List (IndexPlace × Value)) → (o ≡ Equal → ⊥) → IsKeyed fields (k, v) → AreKeyed fields (e ∷ es)
    → AreKeyed fields later → AreKeyed fields (by_order o ((k, v) ∷ e ∷ es) ((e.0, v) ∷ es) (e ∷ later))
keyed_by fields Less k v e es later new own h rest x (inl i) = subst (IsKeyed fields) i own
keyed_by fields Less k v e es later new own h rest x (inr i) = h x i
keyed_by fields Equal k v e es later new own h rest x i = absurd (new refl)
keyed_by fields Greater k v e es later new own h rest x (inl i) = h x (inl i)
keyed_by fields Greater k v e es later new own h rest x (inr i) = rest x i

keyed_first : (fields : List (List ℕ)) (k : IndexPlace) (v : Value) → IsKeyed fields (k, v) → AreKeyed fields ((k, v) ∷ [])
keyed_first fields k v own x (inl i) = subst (IsKeyed fields) i own
keyed_first fields k v own x (inr i) = absurd i

keyed_put : (fields : List (List ℕ)) (k : IndexPlace) (v : Value) (es : List (IndexPlace × Value)) → ((x : IndexPlace × Value) → In es x → place_order k x.0 ≡ Equal → ⊥) → IsKeyed fields (k, v) → AreKeyed fields es
    → AreKeyed fields (put place_order k v es)
keyed_put fields k v [] new own h = keyed_first fields k v own
keyed_put fields k v (e ∷ es) new own h =
    keyed_by fields (place_order k e.0) k v e es (put place_order k v es) (new e (inl refl)) own h (keyed_put fields k v es (λ x i. new x (inr i)) own (λ x i. h x (inr i)))

keyed_one : (fields : List (List ℕ)) (id : List ℕ) (o : Option Value) (es : List (IndexPlace × Value)) → ((v : Value) → o ≡ Some v → id_of v ≡ Some id) → ((x : IndexPlace × Value) → In es x → After id x.0) → AreKeyed fields es
    → AreKeyed fields (put_in_index fields id o es)
keyed_one fields id None es own after h = h
keyed_one fields id (Some v) es own after h = by (field_values fields v) refl
  where
    by : (values : Option Items) → field_values fields v ≡ values → AreKeyed fields (put_at_values id v values es)
    by None none = h
    by (Some values) has =
        keyed_put fields (record { key = array values; id = id }) v es (λ x i t. not_tied (collation (array values) x.0.key) (slice_cmp nat_cmp id x.0.id) (after x i) t)
        (λ i. place_by (has i) (own v refl i)) h

keyed_index : (fields : List (List ℕ)) (es : List Entry) → is_sorted (slice_cmp nat_cmp) es ≡ true → AreKeyed fields (index_over fields es)
keyed_index fields [] h = λ x i. absurd i
keyed_index fields (e ∷ es) h =
    keyed_one fields e.0 (seen e) (index_over fields es) (id_of-queried_document e.0 e.1.history) (after_index fields e.0 es (first_so _ _ h)) (keyed_index fields es (second_so _ _ h))

-- ---- so they are in order

abbrev IsBefore : List (List ℕ) → Bool → Value → Value → Type 0
IsBefore fields descending v w = is_before descending (place_of fields v) (place_of fields w) ≡ true

in_order : (fields : List (List ℕ)) (x y : IndexPlace × Value) → IsKeyed fields x → IsKeyed fields y → place_order x.0 y.0 ≡ Less → IsBefore fields false x.1 y.1
in_order fields x y h k lt = (λ i. is_before false (h i) (k i)) ∙ ap is_lt lt

documents_ascend : (fields : List (List ℕ)) (es : List (IndexPlace × Value)) → is_sorted place_order es ≡ true → AreKeyed fields es → AllPairs (IsBefore fields false) (map (λ e. e.1) es)
documents_ascend fields [] h k = λ i j d lt within. absurd (omega arith)
documents_ascend fields (e ∷ es) h k =
    AllPairs-cons (IsBefore fields false) e.1 (map (λ f. f.1) es)
    (all_in (IsBefore fields false e.1) (map (λ f. f.1) es)
    (λ w i. let f = from_map (λ (x : IndexPlace × Value). x.1) es w i in
    subst (IsBefore fields false e.1) f.2 (in_order fields e f.0 (k e (inl refl)) (k f.0 (inr f.1)) (below place_order e.0 es (first_so _ _ h) f.0 f.1))))
    (documents_ascend fields es (second_so _ _ h) (λ x i. k x (inr i)))

-- ---- turned and cut

turned : (o : Ordering) → is_lt o ≡ true → is_gt (ordering_reverse o) ≡ true
turned Less e = refl
turned Equal e = absurd cc
turned Greater e = absurd cc

places_turned : (p q : Option IndexPlace) → is_before false p q ≡ true → is_before true q p ≡ true
places_turned None q h = absurd cc
places_turned (Some p) None h = absurd cc
places_turned (Some p) (Some q) h = ap is_gt (place_order_total.antisymm q p) ∙ turned (place_order p q) h

directed : (fields : List (List ℕ)) (descending : Bool) (vs : List Value) → AllPairs (IsBefore fields false) vs → AllPairs (IsBefore fields descending) (in_direction descending vs)
directed fields true vs h = pairs_reverse (IsBefore fields true) vs (λ i j d lt within. places_turned (place_of fields (get_or vs i d)) (place_of fields (get_or vs j d)) (h i j d lt within))
directed fields false vs h = h

pub found_in_order : (query : Query) (db : Database) → AllPairs (λ v w. is_before query.descending (place_of query.sort v) (place_of query.sort w) ≡ true) (found_documents query db)
found_in_order query db =
    let es = finite.entries db.documents in
    let R = IsBefore query.sort query.descending in
    let ascending = documents_ascend query.sort (index_entries query.sort db) (sorted_index query.sort es) (keyed_index query.sort es (true_from_T _ (finite.entries_sorted db.documents))) in
    pairs_take R query.limit _ (pairs_drop R query.skip _
    (AllPairs-filter R (λ (v : Value). selector_matches query.selector v) (sorted_documents query.sort query.descending db) (directed query.sort query.descending (map (λ e. e.1) (index_entries query.sort db)) ascending)))

-- ---- so no id stands there twice

not_itself : (o : Ordering) (descending : Bool) → o ≡ ordering_reverse o → cond descending (is_gt o) (is_lt o) ≡ true → ⊥
not_itself Less true e h = cc
not_itself Less false e h = cc
not_itself Equal true e h = cc
not_itself Equal false e h = cc
not_itself Greater true e h = cc
not_itself Greater false e h = cc

before_itself : (descending : Bool) (p : Option IndexPlace) → is_before descending p p ≡ true → ⊥
before_itself descending None h = cc
before_itself descending (Some p) h = not_itself (place_order p p) descending (place_order_total.antisymm p p) h

-- two documents of one id that queries look at are one
one_document : (query : Query) (db : Database) (v w : Value) → IsFindable query db v → IsFindable query db w → id_of v ≡ id_of w → v ≡ w
one_document query db v w h k e =
    let ids : h.id ≡ k.id = (let a = id_of-queried_document h.id h.document.history v h.shown in let b = id_of-queried_document k.id k.document.history w k.shown in cc) in
    let documents : h.document ≡ k.document = (let a = sym h.there ∙ ap (finite.get db.documents) ids ∙ k.there in cc) in
    let same = sym h.shown ∙ (λ i. queried_document (ids i) (documents i).history) ∙ k.shown in
    cc

in_at : {X : Type 0} (xs : List X) (n : ℕ) (d : X) → n < length xs → In xs (get_or xs n d)
in_at [] n d h = absurd (omega arith)
in_at (x ∷ xs) zero d h = inl refl
in_at (x ∷ xs) (suc n) d h = inr (in_at xs n d (omega arith))

pub found_once : (query : Query) (db : Database) → AllPairs (λ v w. id_of v ≢ id_of w) (found_documents query db)
found_once query db i j d lt within same =
    let vs = found_documents query db in
    let there = λ (n : ℕ) (h : n < length vs). findable query db (get_or vs n d) (in_at vs n d h) in
    let one = one_document query db _ _ (there i (omega arith)) (there j within) same in
    before_itself query.descending (place_of query.sort (get_or vs i d))
    (ap (λ v. is_before query.descending (place_of query.sort (get_or vs i d)) (place_of query.sort v)) one ∙ found_in_order query db i j d lt within)
