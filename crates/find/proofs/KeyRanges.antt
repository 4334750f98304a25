-- Keys whose first value lies within bounds lie within a range of keys.
use Rattle.std.proofs.Common.{◌≡◌, ◌≤◌, ◌<◌, ◌+◌, ℕ, suc, arith, Bool, true, false, not, ◌&&◌, cond, List, [], ◌∷◌, Option, Some, None, Ordering, bytes_eq, drop, get_or, length, refl, sym, ap, subst, ◌∙◌}
use Rattle.std.proofs.Math.Seq.{drop-cons}
use Rattle.std.proofs.lemmas.List.{drop_all, drop_more}
use Rattle.std.proofs.lemmas.Slice.Eq.{bytes_eq-Decides}
use Rattle.std.specs.Prelude.{◌||◌, is_some, slice_get}
use Rattle.std.specs.List.{list_any}
use Rattle.std.specs.declared.cmp.Ordering.TheVariants.{Less, Equal, Greater}
use Rattle.std.specs.Cmp.{first_so, second_so}
use Rattle.std.specs.Ordering.{is_eq, is_ge, is_gt, is_le, is_lt, ordering_reverse, ordering_then}
use Rattle.couch_json.specs.Collation.{collation, items_collation}
use Rattle.couch_json.specs.FieldPath.{value_at}
use Rattle.couch_json.specs.Value.{Items, Value, array, item, no_items}
use Rattle.couch_json.proofs.Orders.{collation_total}
use Rattle.couch_json.specs.View.{view}
use Rattle.selector.specs.Bounds.{contain, is_above as is_over, is_below}
use Rattle.selector.specs.Truth.{selector_matches}
use Rattle.selector.specs.declared.bounds.Bounds.{Bounds}
use Rattle.selector.specs.declared.bounds.Bounds.TheVariants.{Range}
use Rattle.selector.specs.declared.bounds.Edge.{Edge}
use Rattle.store.specs.Indexes.{field_values, values_with}
use Rattle.store.specs.KeyPages.{is_above, is_key_within, lies_above}
use Rattle.store.specs.declared.index_page.CutSide.{CutSide}
use Rattle.store.specs.declared.index_page.CutSide.TheVariants.{AfterPrefix, Before}
use Rattle.store.specs.declared.index_page.KeyCut.{KeyCut}
use Rattle.store.specs.declared.index_page.KeyRange.{KeyRange}
use Rattle.find.specs.inner.Planning.{AreThere, Covers, IsThere, has_key_within}
use Rattle.find.specs.declared.query.Query.{Query}

-- ---- cuts at one value

none_below : (vs : Items) → is_ge (items_collation vs no_items) ≡ true
none_below no_items = refl
none_below (item v vs) = refl

at_least : (o p : Ordering) → is_ge o ≡ true → is_ge p ≡ true → is_ge (ordering_then o p) ≡ true
at_least Less p h g = h
at_least Equal p h g = g
at_least Greater p h g = refl

beyond : (o p q : Ordering) → q ≡ ordering_reverse o → is_gt o ≡ true → is_gt (ordering_then o p) && not (is_eq q && true) ≡ true
beyond Less p q e h = absurd cc
beyond Equal p q e h = absurd cc
beyond Greater p q e h = ap (λ x. not (is_eq x && true)) e

false_second : (b : Bool) → b && false ≡ false
false_second true = refl
false_second false = refl

not_beyond : (o p q : Ordering) → q ≡ ordering_reverse o → is_le o ≡ true → is_gt (ordering_then o p) && not (is_eq q && true) ≡ false
not_beyond Less p q e h = refl
not_beyond Equal p q e h = ap (λ x. is_gt p && not (is_eq x && true)) e ∙ false_second (is_gt p)
not_beyond Greater p q e h = absurd cc

not_least : (o p : Ordering) → is_lt o ≡ true → is_ge (ordering_then o p) ≡ false
not_least Less p h = refl
not_least Equal p h = absurd cc
not_least Greater p h = absurd cc

-- keys whose first value lies above a low edge lie above its cut
pub above_low : (inclusive : Bool) (u v : Value) (vs : Items) → cond inclusive (is_ge (collation v u)) (is_gt (collation v u)) ≡ true
    → lies_above (cond inclusive Before AfterPrefix) (array (item u no_items)) (array (item v vs)) ≡ true
above_low true u v vs h = at_least (collation v u) (items_collation vs no_items) h (none_below vs)
above_low false u v vs h = beyond (collation v u) (items_collation vs no_items) (collation u v) (collation_total.antisymm u v) h

-- keys whose first value lies below a high edge do not lie above its cut
pub below_high : (inclusive : Bool) (u v : Value) (vs : Items) → cond inclusive (is_le (collation v u)) (is_lt (collation v u)) ≡ true
    → lies_above (cond (not inclusive) Before AfterPrefix) (array (item u no_items)) (array (item v vs)) ≡ false
below_high true u v vs h = not_beyond (collation v u) (items_collation vs no_items) (collation u v) (collation_total.antisymm u v) h
below_high false u v vs h = not_least (collation v u) (items_collation vs no_items) h

cut_made : (u : Value) (cut : KeyCut) (side other : CutSide) → cut ≡ record { key = array (item u no_items); side = side } → side ≡ other → (key : Value)
    → lies_above cut.side cut.key key ≡ lies_above other (array (item u no_items)) key
cut_made u cut side other made is key = ap (λ (c : KeyCut). lies_above c.side c.key key) made ∙ ap (λ t. lies_above t (array (item u no_items)) key) is

-- the cut that is made at a low edge
pub low_made : (edge : Edge) (cut : KeyCut) (side : CutSide) → cut ≡ record { key = array (item (view edge.value.now) no_items); side = side } → side ≡ cond edge.inclusive Before AfterPrefix
    → (v : Value) (vs : Items) → is_over (Some edge) v ≡ true → is_above true (Some cut) (array (item v vs)) ≡ true
low_made edge cut side made is v vs h =
    cut_made (view edge.value.now) cut side (cond edge.inclusive Before AfterPrefix) made is (array (item v vs)) ∙ above_low edge.inclusive (view edge.value.now) v vs h

-- the cut that is made at a high edge
pub high_made : (edge : Edge) (cut : KeyCut) (side : CutSide) → cut ≡ record { key = array (item (view edge.value.now) no_items); side = side } → side ≡ cond (not edge.inclusive) Before AfterPrefix
    → (v : Value) (vs : Items) → is_below (Some edge) v ≡ true → is_above false (Some cut) (array (item v vs)) ≡ false
high_made edge cut side made is v vs h =
    cut_made (view edge.value.now) cut side (cond (not edge.inclusive) Before AfterPrefix) made is (array (item v vs)) ∙ below_high edge.inclusive (view edge.value.now) v vs h

-- ---- fields that are there

-- a field that lies between edges is there
pub bounded_there : (low high : Option Edge) (o : Option Value) → contain (Range low high) o ≡ true → is_some o ≡ true
bounded_there low high None h = absurd cc
bounded_there low high (Some v) h = refl

both_there : (o : Option Value) (p : Option Items) → is_some o ≡ true → is_some p ≡ true → is_some (values_with o p) ≡ true
both_there None p h g = absurd cc
both_there (Some v) None h g = absurd cc
both_there (Some v) (Some vs) h g = refl

-- one more field is there
pub one_there : (query : Query) (field : List ℕ) (fields : List (List ℕ)) → IsThere field query → AreThere fields query → AreThere (field ∷ fields) query
one_there query field fields h g = λ v keys m s. both_there (value_at field v) (field_values fields v) (h v keys m s) (g v keys m s)

pub none_there : (query : Query) → AreThere [] query
none_there query = λ v keys m s. refl

first_there : (o : Option Value) (p : Option Items) (keys : Items) → values_with o p ≡ Some keys → is_some o ≡ true
first_there None p keys h = absurd cc
first_there (Some v) p keys h = refl

rest_there : (o : Option Value) (p : Option Items) (keys : Items) → values_with o p ≡ Some keys → (ks : Items) × (p ≡ Some ks)
rest_there None p keys h = absurd cc
rest_there (Some v) None keys h = absurd cc
rest_there (Some v) (Some vs) keys h = (vs, refl)

-- a field among those that a value has is there
pub among_there : (field : List ℕ) (fields : List (List ℕ)) (v : Value) (keys : Items) → list_any (λ f. bytes_eq field f) fields ≡ true → field_values fields v ≡ Some keys → is_some (value_at field v) ≡ true
among_there field [] v keys h s = absurd cc
among_there field (f ∷ fields) v keys h s = by (bytes_eq field f) refl h (λ k ks r. among_there field fields v ks k r)
  where
    by : (b : Bool) → bytes_eq field f ≡ b → (b || list_any (λ g. bytes_eq field g) fields) ≡ true
        → (list_any (λ g. bytes_eq field g) fields ≡ true → (ks : Items) → field_values fields v ≡ Some ks → is_some (value_at field v) ≡ true) → is_some (value_at field v) ≡ true
    by true is k later = ap (λ g. is_some (value_at g v)) ((bytes_eq-Decides field f).0 is) ∙ first_there (value_at f v) (field_values fields v) keys s
    by false is k later = let rest = rest_there (value_at f v) (field_values fields v) keys s in later k rest.0 rest.1

-- ---- ranges

-- a key whose first value lies between the edges lies between the cuts
pub between : (low high : Option Edge) (range : KeyRange) (v : Value) (vs : Items) → (is_over low v ≡ true → is_above true range.low (array (item v vs)) ≡ true)
    → (is_below high v ≡ true → is_above false range.high (array (item v vs)) ≡ false) → contain (Range low high) (Some v) ≡ true → is_key_within range (array (item v vs)) ≡ true
between low high range v vs over under h = λ i. over (first_so _ _ h) i && not (under (second_so _ _ h) i)

-- each key lies within a range without cuts
pub all_within : (range : KeyRange) (key : Value) → range.low ≡ None → range.high ≡ None → is_key_within range key ≡ true
all_within range key low high = λ i. is_above true (low i) key && not (is_above false (high i) key)

pub nothing_covers : (query : Query) (range : KeyRange) → range.low ≡ None → range.high ≡ None → Covers [] range query
nothing_covers query range low high = λ v keys m s. all_within range (array no_items) low high

within_values : (bounds : Bounds) (range : KeyRange) (o : Option Value) (p : Option Items) → ((v : Value) (vs : Items) → contain bounds (Some v) ≡ true → is_key_within range (array (item v vs)) ≡ true)
    → is_some (values_with o p) ≡ true → contain bounds o ≡ true → has_key_within range (values_with o p) ≡ true
within_values bounds range None p ranged there h = absurd cc
within_values bounds range (Some v) None ranged there h = absurd cc
within_values bounds range (Some v) (Some vs) ranged there h = ranged v vs h

-- the range of keys whose first value lies within the bounds of the first field covers the query
pub first_covers : (query : Query) (field : List ℕ) (fields : List (List ℕ)) (bounds : Bounds) (range : KeyRange) → AreThere (field ∷ fields) query
    → ((v : Value) → selector_matches query.selector v ≡ true → contain bounds (value_at field v) ≡ true)
    → ((v : Value) (vs : Items) → contain bounds (Some v) ≡ true → is_key_within range (array (item v vs)) ≡ true) → Covers (field ∷ fields) range query
first_covers query field fields bounds range there inside ranged = λ v keys m s.
    within_values bounds range (value_at field v) (field_values fields v) ranged (there v keys m s) (inside v m)

-- the first of these fields, and the rest
pub first_of : (fields : List (List ℕ)) (field : List ℕ) → Some field ≡ slice_get fields 0 → (rest : List (List ℕ)) × (fields ≡ field ∷ rest)
first_of [] field e = absurd cc
first_of (f ∷ fields) field e = let same : field ≡ f = cc in (fields, λ i. sym same i ∷ fields)

-- ---- what the code tells of a field

-- a field that the selector bounds is there
pub field_bounded : (query : Query) (field : List ℕ) (bounds : Bounds) (low high : Option Edge) → bounds ≡ Range low high
    → ((v : Value) → selector_matches query.selector v ≡ true → contain bounds (value_at field v) ≡ true) → IsThere field query
field_bounded query field bounds low high is inside = λ v keys m s.
    bounded_there low high (value_at field v) (ap (λ b. contain b (value_at field v)) (sym is) ∙ inside v m)

-- a field that the query sorts by is there
pub field_sorted : (query : Query) (field : List ℕ) → list_any (λ f. bytes_eq field f) query.sort ≡ true → IsThere field query
field_sorted query field h = λ v keys m s. among_there field query.sort v keys h s

-- the next field is there too
pub next_there : (query : Query) (fields : List (List ℕ)) (i : ℕ) (field : List ℕ) → i < length fields → field ≡ get_or fields i field → IsThere field query
    → AreThere (drop (i + 1) fields) query → AreThere (drop i fields) query
next_there query fields i field lt is h rest =
    let next : i + 1 ≡ suc i = omega arith in
    let left : drop i fields ≡ field ∷ drop (i + 1) fields = drop-cons fields i field lt ∙ (λ j. sym is j ∷ drop (sym next j) fields) in
    subst (λ fs. AreThere fs query) (sym left) (one_there query field (drop (i + 1) fields) h rest)

-- there are no more fields
pub no_more_there : (query : Query) (fields : List (List ℕ)) (i : ℕ) → length fields ≤ i → AreThere (drop i fields) query
no_more_there query fields i le = subst (λ fs. AreThere fs query) (sym (drop_all i fields le)) (none_there query)

-- the next field is the same as the next of the others
pub next_same : {P : Type 0} (fields : List (List ℕ)) (i : ℕ) (field other : List ℕ) (left more : List (List ℕ)) → i < length fields → field ≡ get_or fields i field → left ≡ other ∷ more → bytes_eq field other ≡ true
    → (drop i fields ≡ left → P) → drop (i + 1) fields ≡ more → P
next_same fields i field other left more lt is next same found rest =
    let one = (bytes_eq-Decides field other).0 same in
    found (drop_more fields i field lt ∙ (λ j. sym is j ∷ drop (i + 1) fields) ∙ (λ j. one j ∷ rest j) ∙ sym next)
