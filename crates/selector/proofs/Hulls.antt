-- Bounds of one of several, and bounds of one value.
use Rattle.std.proofs.Common.{◌≡◌, ◌-◌, ℕ, zero, suc, List, [], ◌∷◌, Bool, true, false, ◌||◌, cond, length, Option, Some, None, Ordering, Less, Equal, Greater, refl, subst, sym, ap, ap₂, ◌∙◌, arith}
use Rattle.std.specs.Prelude.{slice_get}
use Rattle.std.specs.List.{AllByRecursion}
use Rattle.std.specs.List.Sorted.{IsStrictlySortedBy}
use Rattle.std.specs.Ordering.{is_eq, is_ge, is_gt, is_le, is_lt, ordering_reverse}
use Rattle.couch_json.specs.Collation.{collation}
use Rattle.couch_json.specs.Parts.{is_there_and}
use Rattle.couch_json.specs.Value.{Value}
use Rattle.couch_json.specs.View.{view, items_view}
use Rattle.couch_json.specs.declared.value.Json.{Json}
use Rattle.couch_json.proofs.Orders.{collation_tied, collation_total}
use Rattle.selector.specs.Bounds.{AreJust, IsEdgeAt, contain, is_above, is_below}
use Rattle.selector.specs.Members.{value_order}
use Rattle.selector.specs.Truth.{is_element, meets}
use Rattle.selector.specs.declared.bounds.Bounds.{Bounds}
use Rattle.selector.specs.declared.bounds.Bounds.TheVariants.{Any, Range}
use Rattle.selector.specs.declared.bounds.Edge.{Edge}
use Rattle.selector.specs.declared.operator.ValueOperator.TheVariants.{IsEqual}
use Rattle.selector.proofs.Edges.{both_true, or_left}
use Rattle.selector.proofs.Marks.{one_of}
use Rattle.selector.proofs.Searches.{equal_is, equals}

-- ---- one value

not_less : (o : Ordering) → is_eq o ≡ true → is_ge o ≡ true
not_less Less h = h
not_less Equal h = refl
not_less Greater h = refl

not_greater : (o : Ordering) → is_eq o ≡ true → is_le o ≡ true
not_greater Less h = refl
not_greater Equal h = refl
not_greater Greater h = h

pub contain-AreJust : (b : Bounds) (v : Value) (field : Option Value) → AreJust v b → is_there_and (meets IsEqual v) field ≡ true → contain b field ≡ true
contain-AreJust Any v field h m = absurd h
contain-AreJust (Range None high) v field h m = absurd h.0
contain-AreJust (Range (Some e) None) v field h m = absurd h.1
contain-AreJust (Range (Some e) (Some f)) v None h m = m
contain-AreJust (Range (Some e) (Some f)) v (Some w) h m =
    both_true (is_above (Some e) w) (is_below (Some f) w)
    (ap₂ (λ b x. cond b (is_ge (collation w x)) (is_gt (collation w x))) h.0.1 h.0.0 ∙ not_less (collation w v) m)
    (ap₂ (λ b x. cond b (is_le (collation w x)) (is_lt (collation w x))) h.1.1 h.1.0 ∙ not_greater (collation w v) m)

-- ---- one of several

-- what the hull so far contains, what the next one is true of, and what the rest is true of
pub hull_step : (so_far next rest now : Bool) → (so_far ≡ true → now ≡ true) → (next ≡ true → now ≡ true) → so_far || (next || rest) ≡ true → now || rest ≡ true
hull_step true next rest now f g h = or_left now rest (f refl)
hull_step false true rest now f g h = or_left now rest (g refl)
hull_step false false rest true f g h = refl
hull_step false false rest false f g h = h

pub or_false : (a : Bool) → a || false ≡ true → a ≡ true
or_false true h = refl
or_false false h = h

abbrev pub hull_contain : Option Bounds → Option Value → Bool
hull_contain hull field = is_there_and (λ b. contain b field) hull

pub hull_end : (hull : Option Bounds) (b : Bounds) (field : Option Value) (rest : Bool) → hull ≡ Some b → rest ≡ false → hull_contain hull field || rest ≡ true → contain b field ≡ true
hull_end hull b field rest is none h =
    ap (λ hull. hull_contain hull field) (sym is) ∙ or_false (hull_contain hull field) (ap (λ r. hull_contain hull field || r) (sym none) ∙ h)

-- ---- one of values in their order

at_get : {X : Type 0} (P : X → Type 0) (xs : List X) (n : ℕ) (x : X) → AllByRecursion P xs → Some x ≡ slice_get xs n → P x
at_get P [] n x all is = absurd cc
at_get P (y ∷ ys) zero x all is = let same : y ≡ x = cc in subst P same all.0
at_get P (y ∷ ys) (suc n) x all is = at_get P ys n x all.1 is

turned_ge : (o p : Ordering) → p ≡ ordering_reverse o → is_lt o ≡ true → is_ge p ≡ true
turned_ge Less p is less = ap is_ge is
turned_ge Equal p is less = absurd cc
turned_ge Greater p is less = absurd cc

less_is : (o : Ordering) → o ≡ Less → is_le o ≡ true
less_is o is = ap is_le is

-- what is among values above another one lies above it
above_one : (y : Json) (ys : List Json) → AllByRecursion (λ z. value_order y z ≡ Less) ys → (v : Value) → is_element v (items_view ys) ≡ true → is_lt (collation (view y) v) ≡ true
above_one y [] all v among = absurd cc
above_one y (z ∷ zs) all v among =
    one_of (equals v z) (is_element v (items_view zs)) (is_lt (collation (view y) v)) among
    (λ e. ap (λ w. is_lt (collation (view y) w)) (collation_tied v (view z) (equal_is (collation v (view z)) e)) ∙ ap is_lt all.0)
    (λ e. above_one y zs all.1 v e)

above_first : (xs : List Json) (x : Json) → IsStrictlySortedBy value_order xs → Some x ≡ slice_get xs 0 → (v : Value) → is_element v (items_view xs) ≡ true → is_ge (collation v (view x)) ≡ true
unfolding IsStrictlySortedBy
above_first [] x s is v among = absurd cc
above_first (y ∷ ys) x s is v among =
    let same : y ≡ x = cc in
    ap (λ j. is_ge (collation v (view j))) (sym same)
    ∙ one_of (equals v y) (is_element v (items_view ys)) (is_ge (collation v (view y))) among (not_less (collation v (view y)))
    (λ e. turned_ge (collation (view y) v) (collation v (view y)) (collation_total.antisymm v (view y)) (above_one y ys s.0 v e))

below_last : (xs : List Json) (n : ℕ) (x : Json) → IsStrictlySortedBy value_order xs → length xs ≡ suc n → Some x ≡ slice_get xs n → (v : Value) → is_element v (items_view xs) ≡ true → is_le (collation v (view x)) ≡ true
unfolding IsStrictlySortedBy
below_last [] n x s long is v among = absurd cc
below_last (y ∷ []) zero x s long is v among =
    let same : y ≡ x = cc in
    ap (λ j. is_le (collation v (view j))) (sym same) ∙ not_greater (collation v (view y)) (or_false (equals v y) among)
below_last (y ∷ []) (suc n) x s long is v among = absurd (omega (arith, long))
below_last (y ∷ z ∷ zs) zero x s long is v among = absurd (omega (arith, long))
below_last (y ∷ z ∷ zs) (suc n) x s long is v among =
    one_of (equals v y) (is_element v (items_view (z ∷ zs))) (is_le (collation v (view x))) among
    (λ e. ap (λ w. is_le (collation w (view x))) (collation_tied v (view y) (equal_is (collation v (view y)) e))
    ∙ less_is (value_order y x) (at_get (λ w. value_order y w ≡ Less) (z ∷ zs) n x s.0 is))
    (λ e. below_last (z ∷ zs) n x s.1 (omega (arith, long)) is v e)

long_by : (xs : List Json) (v : Value) → is_element v (items_view xs) ≡ true → length xs ≡ suc (length xs - 1)
long_by [] v among = absurd cc
long_by (x ∷ xs) v among = omega arith

-- the edges at the first and at the last of values in their order contain what is among them
pub ends_contain : (xs : List Json) (x y : Json) (low high : Edge) → IsStrictlySortedBy value_order xs → Some x ≡ slice_get xs 0 → Some y ≡ slice_get xs (length xs - 1)
    → IsEdgeAt (view x) (Some low) → IsEdgeAt (view y) (Some high) → (current : Option Value) → is_there_and (λ v. is_element v (items_view xs)) current ≡ true → contain (Range (Some low) (Some high)) current ≡ true
ends_contain xs x y low high s first last from to None among = among
ends_contain xs x y low high s first last from to (Some v) among =
    both_true (is_above (Some low) v) (is_below (Some high) v)
    (ap₂ (λ b w. cond b (is_ge (collation v w)) (is_gt (collation v w))) from.1 from.0 ∙ above_first xs x s first v among)
    (ap₂ (λ b w. cond b (is_le (collation v w)) (is_lt (collation v w))) to.1 to.0 ∙ below_last xs (length xs - 1) y s (long_by xs v among) last v among)
