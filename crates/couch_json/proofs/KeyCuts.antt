-- What lies above a cut between keys.
use Rattle.std.proofs.Common.{◌≡◌, ℕ, List, [], ◌∷◌, ◌++◌, Bool, true, false, not, ◌&&◌, refl, sym, ap, ◌∙◌, append_assoc, append-nil}
use Rattle.std.proofs.lemmas.List.{append_cancel_right}
use Rattle.std.specs.declared.cmp.Ordering.{Ordering}
use Rattle.std.specs.declared.cmp.Ordering.TheVariants.{Less, Equal, Greater}
use Rattle.std.specs.Ordering.{is_eq, is_ge, is_gt, ordering_then, ordering_reverse, nat_cmp}
use Rattle.std.specs.Cmp.Lexicographic.{slice_cmp}
use Rattle.couch_json.specs.Collation.{collation, items_collation}
use Rattle.couch_json.specs.Key.{key, items_key}
use Rattle.couch_json.specs.KeyCuts.{begin_with, bound_above_all, bound_after, bound_after_prefix, bound_before, bound_below_all, extends_key, items_front, lies_above_cut}
use Rattle.couch_json.specs.Lawful.{IsLawful, AreLawfulItems}
use Rattle.couch_json.specs.Value.{Value, null, truth, whole, text, array, object, Items, no_items, item}
use Rattle.couch_json.proofs.KeyOrder.{key_order, keys_in_order, ends_first}
use Rattle.couch_json.proofs.Orders.{collation_total}

-- ---- below and above all keys

pub above-bound_below_all : (v : Value) → lies_above_cut bound_below_all (key v) ≡ true
above-bound_below_all null = refl
above-bound_below_all (truth false) = refl
above-bound_below_all (truth true) = refl
above-bound_below_all (whole n) = refl
above-bound_below_all (text s) = refl
above-bound_below_all (array vs) = refl
above-bound_below_all (object ms) = refl

key_below_all : (v : Value) (r : List ℕ) → slice_cmp nat_cmp (key v ++ r) (8 ∷ []) ≡ Less
key_below_all null r = refl
key_below_all (truth false) r = refl
key_below_all (truth true) r = refl
key_below_all (whole n) r = refl
key_below_all (text s) r = refl
key_below_all (array vs) r = refl
key_below_all (object ms) r = refl

pub above-bound_above_all : (v : Value) → lies_above_cut bound_above_all (key v) ≡ false
above-bound_above_all v = ap (λ bytes. lies_above_cut bound_above_all bytes) (sym (append-nil (key v))) ∙ ap is_ge (key_below_all v [])

-- ---- before and after a value

pub above-bound_before : (v k : Value) → IsLawful v → IsLawful k → lies_above_cut (bound_before k) (key v) ≡ is_ge (collation v k)
above-bound_before v k h g = ap is_ge (keys_in_order v k h g)

then_less : (o : Ordering) → is_ge (ordering_then o Less) ≡ is_gt o
then_less Less = refl
then_less Equal = refl
then_less Greater = refl

pub above-bound_after : (v k : Value) → IsLawful v → IsLawful k → lies_above_cut (bound_after k) (key v) ≡ is_gt (collation v k)
above-bound_after v k h g =
    ap (λ bytes. lies_above_cut (bound_after k) bytes) (sym (append-nil (key v))) ∙ ap is_ge (key_order v k [] (0 ∷ []) h g) ∙ then_less (collation v k)

-- ---- after the arrays that begin with one

-- one element of each, and what is left of both
element_step : (o o' rest more : Ordering) (b : Bool) → o' ≡ ordering_reverse o → is_ge rest ≡ is_gt more && not b
    → is_ge (ordering_then o rest) ≡ is_gt (ordering_then o more) && not (is_eq o' && b)
element_step Less o' rest more b r h = refl
element_step Equal o' rest more b r h = h ∙ ap (λ t. is_gt more && not (is_eq t && b)) (sym r)
element_step Greater o' rest more b r h = ap (λ t. true && not (is_eq t && b)) (sym r)

and_false : (b : Bool) → b && false ≡ false
and_false true = refl
and_false false = refl

and_true : (b : Bool) → b ≡ b && true
and_true true = refl
and_true false = refl

items_above : (ws us : Items) → AreLawfulItems ws → AreLawfulItems us
    → is_ge (slice_cmp nat_cmp (items_key ws) (items_front us ++ 8 ∷ [])) ≡ is_gt (items_collation ws us) && not (begin_with us ws)
items_above no_items no_items h g = refl
items_above (item w ws) no_items h g = ap is_ge (key_below_all w (items_key ws)) ∙ sym (and_false (is_gt (items_collation (item w ws) no_items)))
items_above no_items (item u us) h g =
    ap (λ bytes. is_ge (slice_cmp nat_cmp (0 ∷ []) bytes)) (append_assoc (key u) (items_front us) (8 ∷ [])) ∙ ap is_ge (ends_first u [] (items_front us ++ 8 ∷ []))
items_above (item w ws) (item u us) h g =
    ap (λ bytes. is_ge (slice_cmp nat_cmp (key w ++ items_key ws) bytes)) (append_assoc (key u) (items_front us) (8 ∷ []))
    ∙ ap is_ge (key_order w u (items_key ws) (items_front us ++ 8 ∷ []) h.0 g.0)
    ∙ element_step (collation w u) (collation u w) _ (items_collation ws us) (begin_with us ws) (collation_total.antisymm u w) (items_above ws us h.1 g.1)

-- where the value is no array nothing begins with it
after_no_array : (v k : Value) → IsLawful v → IsLawful k → lies_above_cut (bound_after k) (key v) ≡ is_gt (collation v k) && true
after_no_array v k h g = above-bound_after v k h g ∙ and_true (is_gt (collation v k))

pub above-bound_after_prefix : (v k : Value) → IsLawful v → IsLawful k
    → lies_above_cut (bound_after_prefix k) (key v) ≡ is_gt (collation v k) && not (extends_key k v)
above-bound_after_prefix null (array us) h g = refl
above-bound_after_prefix (truth false) (array us) h g = refl
above-bound_after_prefix (truth true) (array us) h g = refl
above-bound_after_prefix (whole n) (array us) h g = refl
above-bound_after_prefix (text s) (array us) h g = refl
above-bound_after_prefix (array ws) (array us) h g = items_above ws us h g
above-bound_after_prefix (object ms) (array us) h g = refl
above-bound_after_prefix v null h g = after_no_array v null h g
above-bound_after_prefix v (truth b) h g = after_no_array v (truth b) h g
above-bound_after_prefix v (whole n) h g = after_no_array v (whole n) h g
above-bound_after_prefix v (text s) h g = after_no_array v (text s) h g
above-bound_after_prefix v (object ms) h g = after_no_array v (object ms) h g

-- ---- how the bound after a prefix is made of the key

items_key-items_front : (us : Items) → items_key us ≡ items_front us ++ 0 ∷ []
items_key-items_front no_items = refl
items_key-items_front (item u us) = ap (λ bytes. key u ++ bytes) (items_key-items_front us) ∙ sym (append_assoc (key u) (items_front us) (0 ∷ []))

-- an array's key ends in a byte 0, and the bound has 8 in its place
pub bound_after_prefix-array : (us : Items) (front : List ℕ) → key (array us) ≡ front ++ 0 ∷ [] → bound_after_prefix (array us) ≡ front ++ 8 ∷ []
bound_after_prefix-array us front ends =
    let same : 6 ∷ items_front us ≡ front = append_cancel_right (6 ∷ items_front us) front (0 ∷ []) (sym (ap (λ bytes. 6 ∷ bytes) (items_key-items_front us)) ∙ ends) in
    ap (λ bytes. bytes ++ 8 ∷ []) same
