-- Marks of the values that are among items.
use Rattle.std.proofs.Common.{◌≡◌, ℕ, zero, suc, ◌<◌, ◌≤◌, List, [], ◌∷◌, ◌++◌, ◌||◌, ◌&&◌, Bool, true, false, length, get_or, set, take, drop, replicate, Result, Ok, Err, IfOk, is_ok, Ordering, Less, Equal, Greater, refl, subst, sym, ap, ◌∙◌, arith, rules}
use Rattle.std.specs.List.{AllByRecursion, HoldsAt, list_all}
use Rattle.std.specs.List.Sorted.{IsStrictlySortedBy}
use Rattle.std.specs.Ordering.{is_eq, ordering_reverse}
use Rattle.couch_json.specs.Collation.{collation}
use Rattle.couch_json.specs.Value.{Value, Items, no_items, item}
use Rattle.couch_json.specs.View.{view, items_view}
use Rattle.couch_json.specs.declared.value.Json.{Json}
use Rattle.couch_json.proofs.Orders.{collation_tied, collation_total}
use Rattle.std.specs.Cmp.{eq_by_cmp_equiv}
use Rattle.std.proofs.lemmas.Map.Keys.{IsDistinct-from_sorted}
use Rattle.std.proofs.lemmas.Map.Made.{length-le_from_is_member}
use Rattle.selector.specs.Members.{marks_of, value_order}
use Rattle.selector.specs.Truth.{each_item, each_of_some, is_element}
use Rattle.selector.proofs.Searches.{below_at, equal_is, equals, is_among-any, or_true, value_order_total}

-- ---- truth values

is_eq-reverse : (r : Ordering) → is_eq (ordering_reverse r) ≡ is_eq r
is_eq-reverse Less = refl
is_eq-reverse Equal = refl
is_eq-reverse Greater = refl

same_self : (r : Ordering) → r ≡ ordering_reverse r → r ≡ Equal
same_self Less h = search (rules, h)
same_self Equal h = refl
same_self Greater h = search (rules, h)

and_both : (a b : Bool) → a && b ≡ true → (a ≡ true) × (b ≡ true)
and_both true b h = (refl, h)
and_both false b h = search (rules, h)

both_are : (a b : Bool) → a ≡ true → b ≡ true → a && b ≡ true
both_are a b h g = ap (λ c. c && b) h ∙ g

pub one_of : (a b c : Bool) → a || b ≡ true → (a ≡ true → c ≡ true) → (b ≡ true → c ≡ true) → c ≡ true
one_of true b c h f g = f refl
one_of false b c h f g = g h

absurd_bool : {A : Type 0} → false ≡ true → A
absurd_bool h = search (rules, h)

both_ways : (a b : Bool) → (a ≡ true → b ≡ true) → (b ≡ true → a ≡ true) → a ≡ b
both_ways true b f g = sym (f refl)
both_ways false true f g = g refl
both_ways false false f g = refl

abbrev place_of : Result ℕ ℕ → ℕ
place_of (Ok i) = i
place_of (Err i) = i

-- ---- one more item

or_assoc : (a b c : Bool) → a || (b || c) ≡ (a || b) || c
or_assoc true b c = refl
or_assoc false b c = refl

or_false : (b : Bool) → b || false ≡ b
or_false true = refl
or_false false = refl

pub among-push : (v : Value) (done : List Json) (x : Json) → is_element v (items_view (done ++ x ∷ [])) ≡ is_element v (items_view done) || equals v x
among-push v [] x = or_false (equals v x)
among-push v (d ∷ done) x = ap (λ b. equals v d || b) (among-push v done x) ∙ or_assoc (equals v d) (is_element v (items_view done)) (equals v x)

-- x is not y, whichever is asked for
apart : (v w : Value) → is_eq (collation v w) ≡ false → is_eq (collation w v) ≡ false
apart v w h = ap is_eq (collation_total.antisymm w v) ∙ is_eq-reverse (collation v w) ∙ h

unmoved : (w done : Bool) → w ≡ false → done ≡ done || w
unmoved w done none = sym (or_false done) ∙ ap (λ b. done || b) (sym none)

or_none : (a b : Bool) → a || b ≡ false → (a ≡ false) × (b ≡ false)
or_none true b h = search (rules, h)
or_none false b h = (refl, h)

-- an item that is none of the values
pub marks-missed : (xs done : List Json) (x : Json) → is_element (view x) (items_view xs) ≡ false → marks_of xs done ≡ marks_of xs (done ++ x ∷ [])
marks-missed [] done x h = refl
marks-missed (y ∷ ys) done x h =
    let none = or_none (equals (view x) y) (is_element (view x) (items_view ys)) h in
    let head = unmoved (equals (view y) x) (is_element (view y) (items_view done)) (apart (view x) (view y) none.0) ∙ sym (among-push (view y) done x) in
    λ i. head i ∷ marks-missed ys done x none.1 i

-- an item that is below the values
below_all : (x y : Json) (ys : List Json) → collation (view y) (view x) ≡ Equal → AllByRecursion (λ z. value_order y z ≡ Less) ys → is_element (view x) (items_view ys) ≡ false
below_all x y [] same h = refl
below_all x y (z ∷ zs) same h =
    let less : collation (view x) (view z) ≡ Less = sym (collation_total.congr (view y) (view x) (view z) same) ∙ h.0 in
    ap (λ r. is_eq r || is_element (view x) (items_view zs)) less ∙ below_all x y zs same h.1

marked : (v : Value) (done : List Json) (x : Json) → collation v (view x) ≡ Equal → true ≡ is_element v (items_view (done ++ x ∷ []))
marked v done x same = sym (among-push v done x ∙ ap (λ r. is_element v (items_view done) || is_eq r) same ∙ or_true (is_element v (items_view done)))

less_apart : (y z x : Json) → value_order y z ≡ Less → collation (view z) (view x) ≡ Equal → equals (view y) x ≡ false
less_apart y z x less same =
    let turned : collation (view z) (view y) ≡ Greater = collation_total.antisymm (view z) (view y) ∙ ap ordering_reverse less in
    let above : collation (view x) (view y) ≡ Greater = sym (collation_total.congr (view z) (view x) (view y) same) ∙ turned in
    ap is_eq (collation_total.antisymm (view y) (view x) ∙ ap ordering_reverse above)

pub marks-found : (xs done : List Json) (x : Json) (i : ℕ) → IsStrictlySortedBy value_order xs → i < length xs → HoldsAt (λ y. collation (view y) (view x) ≡ Equal) xs i
    → set (marks_of xs done) i true ≡ marks_of xs (done ++ x ∷ [])
unfolding IsStrictlySortedBy
marks-found [] done x i s lt h = absurd (omega arith)
marks-found (y ∷ ys) done x zero s lt h =
    let rest = marks-missed ys done x (below_all x y ys (h y) s.0) in
    λ i. marked (view y) done x (h y) i ∷ rest i
marks-found (y ∷ ys) done x (suc k) s lt h =
    let z = get_or ys k y in
    let less = below_at (λ z. value_order y z ≡ Less) ys k y s.0 (omega arith) in
    let head = unmoved (equals (view y) x) (is_element (view y) (items_view done)) (less_apart y z x less (h y)) ∙ sym (among-push (view y) done x) in
    let rest = marks-found ys done x k s.1 (omega arith) h in
    λ i. head i ∷ rest i

pub marks-none : (xs : List Json) → replicate (length xs) false ≡ marks_of xs []
marks-none [] = refl
marks-none (x ∷ xs) = ap (λ ms. false ∷ ms) (marks-none xs)

pub all-marks : (xs items : List Json) → list_all (λ b. b) (marks_of xs items) ≡ each_item (λ w. is_element w (items_view items)) (items_view xs)
all-marks [] items = refl
all-marks (x ∷ xs) items = ap (λ b. is_element (view x) (items_view items) && b) (all-marks xs items)

-- ---- the values in parts

and_assoc : (a b c : Bool) → a && (b && c) ≡ (a && b) && c
and_assoc true b c = refl
and_assoc false b c = refl

pub each-parts : (P : Value → Bool) (k : ℕ) (xs : List Json) → each_item P (items_view xs) ≡ each_item P (items_view (take k xs)) && each_item P (items_view (drop k xs))
each-parts P zero xs = refl
each-parts P (suc k) [] = refl
each-parts P (suc k) (x ∷ xs) = ap (λ b. P (view x) && b) (each-parts P k xs) ∙ and_assoc (P (view x)) (each_item P (items_view (take k xs))) (each_item P (items_view (drop k xs)))

below-take : {X : Type 0} (P : X → Type 0) (k : ℕ) (xs : List X) → AllByRecursion P xs → AllByRecursion P (take k xs)
below-take P zero xs h = tt
below-take P (suc k) [] h = tt
below-take P (suc k) (x ∷ xs) h = (h.0, below-take P k xs h.1)

pub ascending-take : (k : ℕ) (xs : List Json) → IsStrictlySortedBy value_order xs → IsStrictlySortedBy value_order (take k xs)
unfolding IsStrictlySortedBy
ascending-take zero xs s = tt
ascending-take (suc k) [] s = tt
ascending-take (suc k) (x ∷ xs) s = (below-take (λ y. value_order x y ≡ Less) k xs s.0, ascending-take k xs s.1)

pub ascending-drop : (k : ℕ) (xs : List Json) → IsStrictlySortedBy value_order xs → IsStrictlySortedBy value_order (drop k xs)
unfolding IsStrictlySortedBy
ascending-drop zero xs s = s
ascending-drop (suc k) [] s = tt
ascending-drop (suc k) (x ∷ xs) s = ascending-drop k xs s.1

-- ---- the same elements in another list

itself : (v : Value) (vs : Items) → is_element v (item v vs) ≡ true
itself v vs = ap (λ r. is_eq r || is_element v vs) (same_self (collation v v) (collation_total.antisymm v v))

at_among : (P : Value → Bool) (v : Value) (vs : Items) → is_element v vs ≡ true → each_item P vs ≡ true → P v ≡ true
at_among P v no_items h all = search (rules, h)
at_among P v (item w vs) h all =
    let parts = and_both (P w) (each_item P vs) all in
    one_of (is_eq (collation v w)) (is_element v vs) (P v) h (λ e. ap P (collation_tied v w (equal_is (collation v w) e)) ∙ parts.0) (λ e. at_among P v vs e parts.1)

each_within : (P : Value → Bool) (vs ws : Items) → ((v : Value) → is_element v vs ≡ true → is_element v ws ≡ true) → each_item P ws ≡ true → each_item P vs ≡ true
each_within P no_items ws within all = refl
each_within P (item v vs) ws within all =
    both_are (P v) (each_item P vs) (at_among P v ws (within v (itself v vs)) all)
    (each_within P vs ws (λ u e. within u (ap (λ b. is_eq (collation u v) || b) e ∙ or_true (is_eq (collation u v)))) all)

some_within : (P : Value → Bool) (vs ws : Items) → ((v : Value) → is_element v vs ≡ is_element v ws) → each_of_some P ws ≡ true → each_of_some P vs ≡ true
some_within P vs no_items same all = search (rules, all)
some_within P no_items (item w ws) same all = absurd_bool (same w ∙ itself w ws)
some_within P (item v vs) (item w ws) same all = each_within P (item v vs) (item w ws) (λ u e. sym (same u) ∙ e) all

pub each_of_some-same : (P : Value → Bool) (vs ws : Items) → ((v : Value) → is_element v vs ≡ is_element v ws) → each_of_some P vs ≡ each_of_some P ws
each_of_some-same P vs ws same = both_ways (each_of_some P vs) (each_of_some P ws) (some_within P ws vs (λ v. sym (same v))) (some_within P vs ws same)

-- ---- more values than items

-- each of the values is among the items, so there are as many items
as_many : (xs items : List Json) → IsStrictlySortedBy value_order xs → each_item (λ w. is_element w (items_view items)) (items_view xs) ≡ true → length xs ≤ length items
as_many xs items s each =
    length-le_from_is_member (eq_by_cmp_equiv value_order_total) xs items (IsDistinct-from_sorted value_order xs s)
    (λ q m. sym (is_among-any (view q) items)
    ∙ at_among (λ w. is_element w (items_view items)) (view q) (items_view xs) (is_among-any (view q) xs ∙ m) each)

pub too_many : (xs items : List Json) → IsStrictlySortedBy value_order xs → length items < length xs → false ≡ each_item (λ w. is_element w (items_view items)) (items_view xs)
too_many xs items s more = by (each_item (λ w. is_element w (items_view items)) (items_view xs)) refl
  where
    by : (b : Bool) → each_item (λ w. is_element w (items_view items)) (items_view xs) ≡ b → false ≡ each_item (λ w. is_element w (items_view items)) (items_view xs)
    by true each = absurd (omega (arith, more, as_many xs items s each))
    by false none = sym none

-- ---- a step of the loop that marks

pub step-found : (xs done more : List Json) (x : Json) (marks after : List Bool) (r : Result ℕ ℕ) (i : ℕ) → IsStrictlySortedBy value_order xs → more ≡ done ++ x ∷ []
    → marks ≡ marks_of xs done → after ≡ set marks i true → r ≡ Ok i → IfOk r (λ i. (i < length xs) × HoldsAt (λ y. collation (view y) (view x) ≡ Equal) xs i) → after ≡ marks_of xs more
step-found xs done more x marks after (Ok j) i s steps were put is there =
    put ∙ ap (λ ms. set ms i true) were ∙ ap (λ k. set (marks_of xs done) k true) (sym (ap place_of is)) ∙ marks-found xs done x j s there.0 there.1 ∙ ap (marks_of xs) (sym steps)
step-found xs done more x marks after (Err j) i s steps were put is there = absurd_bool (ap is_ok is)

pub step-missed : (xs done more : List Json) (x : Json) (marks after : List Bool) (r : Result ℕ ℕ) (i : ℕ) → more ≡ done ++ x ∷ []
    → marks ≡ marks_of xs done → after ≡ marks → r ≡ Err i → is_ok r ≡ is_element (view x) (items_view xs) → after ≡ marks_of xs more
step-missed xs done more x marks after r i steps were put is among =
    put ∙ were ∙ marks-missed xs done x (sym among ∙ ap is_ok is) ∙ ap (marks_of xs) (sym steps)

-- ---- a step of the loop over parts

pub part-fails : (P : Value → Bool) (k : ℕ) (xs front : List Json) (all found : Bool) → front ≡ take k xs → all ≡ each_item P (items_view xs) → found ≡ each_item P (items_view front) → found ≡ false → false ≡ all
part-fails P k xs front all found is same this none =
    sym (same ∙ each-parts P k xs ∙ ap (λ b. b && each_item P (items_view (drop k xs))) (sym (ap (λ vs. each_item P (items_view vs)) is) ∙ sym this ∙ none))

pub part-holds : (P : Value → Bool) (k : ℕ) (xs front back : List Json) (found : Bool) → front ≡ take k xs → back ≡ drop k xs → found ≡ each_item P (items_view front) → found ≡ true
    → each_item P (items_view xs) ≡ each_item P (items_view back)
part-holds P k xs front back found is rest this holds =
    each-parts P k xs ∙ ap (λ b. b && each_item P (items_view (drop k xs))) (sym (ap (λ vs. each_item P (items_view vs)) is) ∙ sym this ∙ holds) ∙ sym (ap (λ vs. each_item P (items_view vs)) rest)

pub front-ascends : (k : ℕ) (xs front : List Json) → front ≡ take k xs → IsStrictlySortedBy value_order xs → IsStrictlySortedBy value_order front
front-ascends k xs front is s = subst (IsStrictlySortedBy value_order) (sym is) (ascending-take k xs s)

pub back-ascends : (k : ℕ) (xs back : List Json) → back ≡ drop k xs → IsStrictlySortedBy value_order xs → IsStrictlySortedBy value_order back
back-ascends k xs back is s = subst (IsStrictlySortedBy value_order) (sym is) (ascending-drop k xs s)
