-- Fields that a selector binds to one value.
use Rattle.std.proofs.Common.{◌≡◌, ◌&&◌, ℕ, Bool, true, false, cond, List, [], Option, Some, None, Ordering, map, refl, sym, ap, ◌∙◌}
use Rattle.std.specs.declared.cmp.Ordering.TheVariants.{Less, Equal, Greater}
use Rattle.std.specs.Cmp.{first_so, second_so}
use Rattle.std.specs.Prelude.{IfSome}
use Rattle.std.specs.Ordering.{is_eq, is_ge, is_gt, is_le, is_lt}
use Rattle.couch_json.specs.Collation.{collation}
use Rattle.couch_json.specs.FieldPath.{value_at}
use Rattle.couch_json.specs.Value.{Value}
use Rattle.couch_json.specs.View.{items_view, view}
use Rattle.couch_json.specs.declared.value.Json.{Json}
use Rattle.couch_json.proofs.Orders.{collation_tied}
use Rattle.selector.specs.Bounds.{contain}
use Rattle.selector.specs.Truth.{selector_matches}
use Rattle.selector.specs.declared.bounds.Bounds.{Bounds}
use Rattle.selector.specs.declared.bounds.Bounds.TheVariants.{Range}
use Rattle.selector.specs.declared.bounds.Edge.{Edge}
use Rattle.store.proofs.FieldValues.{all_fields, before_all}
use Rattle.store.specs.Indexes.{field_values}
use Rattle.find.specs.inner.Planning.{AreFixed}
use Rattle.find.specs.declared.query.Query.{Query}

tied : (o : Ordering) → is_eq o ≡ true → o ≡ Equal
tied Less h = absurd cc
tied Equal h = refl
tied Greater h = absurd cc

between : (o : Ordering) → is_ge o ≡ true → is_le o ≡ true → o ≡ Equal
between Less h k = absurd cc
between Equal h k = refl
between Greater h k = absurd cc

at_low : (inside : Bool) (o : Ordering) → inside ≡ true → cond inside (is_ge o) (is_gt o) ≡ true → is_ge o ≡ true
at_low true o is h = h
at_low false o is h = absurd cc

at_high : (inside : Bool) (o : Ordering) → inside ≡ true → cond inside (is_le o) (is_lt o) ≡ true → is_le o ≡ true
at_high true o is h = h
at_high false o is h = absurd cc

-- no other value lies between edges that are one value
pub only_between : (low high : Edge) (v : Value) → (low.inclusive && high.inclusive && is_eq (collation (view low.value.now) (view high.value.now))) ≡ true
    → contain (Range (Some low) (Some high)) (Some v) ≡ true → v ≡ view low.value.now
only_between low high v one h =
    let both = first_so (low.inclusive && high.inclusive) (is_eq (collation (view low.value.now) (view high.value.now))) one in
    let same = collation_tied (view low.value.now) (view high.value.now) (tied (collation (view low.value.now) (view high.value.now)) (second_so (low.inclusive && high.inclusive) _ one)) in
    let above = at_low low.inclusive (collation v (view low.value.now)) (first_so low.inclusive high.inclusive both) (first_so _ _ h) in
    let below = at_high high.inclusive (collation v (view high.value.now)) (second_so low.inclusive high.inclusive both) (second_so _ _ h) in
    collation_tied v (view low.value.now) (between (collation v (view low.value.now)) above (ap (λ w. is_le (collation v w)) same ∙ below))

in_bounds : (low high : Option Edge) (o : Option Value) (u : Value) → contain (Range low high) o ≡ true → ((v : Value) → contain (Range low high) (Some v) ≡ true → v ≡ u) → o ≡ Some u
in_bounds low high None u h only = absurd cc
in_bounds low high (Some v) u h only = ap Some (only v h)

-- a field between edges that leave one value has that value
pub value_fixed : {U : Type 0} (look : U → Value) (query : Query) (field : List ℕ) (bounds : Bounds) (low high : Option Edge) (r : Option U) → bounds ≡ Range low high
    → ((v : Value) → selector_matches query.selector v ≡ true → contain bounds (value_at field v) ≡ true)
    → IfSome r (λ u. (v : Value) → contain (Range low high) (Some v) ≡ true → v ≡ look u) → IfSome r (λ u. (v : Value) → selector_matches query.selector v ≡ true → value_at field v ≡ Some (look u))
value_fixed look query field bounds low high None is inside only = tt
value_fixed look query field bounds low high (Some u) is inside only = λ v m. in_bounds low high (value_at field v) (look u) (ap (λ b. contain b (value_at field v)) (sym is) ∙ inside v m) only

-- no field is left
pub all_fixed : (query : Query) (fields left : List (List ℕ)) (values : List Json) → left ≡ [] → ((v : Value) → selector_matches query.selector v ≡ true → before_all (map view values) (field_values left v) ≡ field_values fields v)
    → AreFixed fields (items_view values) query
all_fixed query fields left values none h = λ v m. sym (all_fields left v values none ∙ h v m)
