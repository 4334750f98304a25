-- What a search among values in their order finds.
use Rattle.std.proofs.Common.{◌≡◌, ℕ, zero, suc, ◌<◌, ◌≤◌, List, [], ◌∷◌, ◌||◌, Option, Some, None, Bool, true, false, cond, length, get_or, Result, Ok, Err, IfOk, is_ok, Ordering, Less, Equal, Greater, refl, sym, ap, ◌∙◌, arith, rules}
use Rattle.std.specs.Cmp.{IsTotalOrder}
use Rattle.std.specs.List.{AllByRecursion, AllWithin, HoldsAt, dedup, dedup_from, list_any}
use Rattle.std.specs.List.Sorted.{IsBinarySearchResult, IsPermutation, IsSearchInRange, IsStrictlySortedBy}
use Rattle.std.specs.Ordering.{is_eq, ordering_index, ordering_reverse}
use Rattle.std.proofs.lemmas.List.Sorted.{list_any-IsPermutation}
use Rattle.couch_json.specs.Collation.{collation}
use Rattle.couch_json.specs.Value.{Value}
use Rattle.couch_json.specs.View.{view, items_view}
use Rattle.couch_json.specs.declared.value.Json.{Json}
use Rattle.couch_json.proofs.Orders.{collation_total}
use Rattle.selector.specs.Members.{HaveSame, value_order}
use Rattle.selector.specs.Truth.{elements_or_none, is_element, meets}
use Rattle.selector.specs.declared.operator.ValueOperator.TheVariants.{IsIn}
use Rattle.couch_json.specs.Parts.{is_there_and}

pub value_order_total : IsTotalOrder value_order
value_order_total = record {
  antisymm = λ x y. collation_total.antisymm (view x) (view y);
  trans = λ x y z p q. collation_total.trans (view x) (view y) (view z) p q;
  congr = λ x y z p. collation_total.congr (view x) (view y) (view z) p;
}

-- ---- what sorting and dropping repeated values keeps

abbrev pub equals : Value → Json → Bool
equals v w = is_eq (collation v (view w))

abbrev pub ties : Json → Json → Bool
ties x y = is_eq (value_order x y)

pub is_among-any : (v : Value) (js : List Json) → is_element v (items_view js) ≡ list_any (equals v) js
is_among-any v [] = refl
is_among-any v (j ∷ js) = ap (λ b. equals v j || b) (is_among-any v js)

pub equal_is : (r : Ordering) → is_eq r ≡ true → r ≡ Equal
equal_is Less h = search (rules, h)
equal_is Equal h = refl
equal_is Greater h = search (rules, h)

-- a value equals both or none of two that tie
equals-ties : (v : Value) (x k : Json) → ties x k ≡ true → equals v x ≡ equals v k
equals-ties v x k h =
    let o = collation_total in
    ap is_eq (o.antisymm v (view x) ∙ ap ordering_reverse (o.congr (view x) (view k) v (equal_is (value_order x k) h)) ∙ sym (o.antisymm v (view k)))

twice : (a b : Bool) → a || b ≡ a || (a || b)
twice true b = refl
twice false b = refl

any-cond : (p : Json → Bool) (b : Bool) (xs ys : List Json) → list_any p (cond b xs ys) ≡ cond b (list_any p xs) (list_any p ys)
any-cond p true xs ys = refl
any-cond p false xs ys = refl

-- x ties with k and goes, or stays behind it
dropped : (b a c rest left kept : Bool) → (b ≡ true → c ≡ a) → left ≡ a || rest → kept ≡ c || rest → cond b left (a || kept) ≡ a || (c || rest)
dropped true a c rest left kept same h g = h ∙ twice a rest ∙ ap (λ b. a || (b || rest)) (sym (same refl))
dropped false a c rest left kept same h g = ap (λ b. a || b) g

any-dedup_from : (v : Value) (k : Json) (xs : List Json) → list_any (equals v) (dedup_from ties k xs) ≡ equals v k || list_any (equals v) xs
any-dedup_from v k [] = refl
any-dedup_from v k (x ∷ xs) =
    any-cond (equals v) (ties x k) (dedup_from ties k xs) (k ∷ dedup_from ties x xs)
    ∙ dropped (ties x k) (equals v k) (equals v x) (list_any (equals v) xs) (list_any (equals v) (dedup_from ties k xs)) (list_any (equals v) (dedup_from ties x xs))
    (equals-ties v x k) (any-dedup_from v k xs) (any-dedup_from v x xs)

any-dedup : (v : Value) (xs : List Json) → list_any (equals v) (dedup ties xs) ≡ list_any (equals v) xs
any-dedup v [] = refl
any-dedup v (x ∷ xs) = any-dedup_from v x xs

pub HaveSame-sorted : (xs ys zs : List Json) → IsPermutation xs ys → zs ≡ dedup ties ys → HaveSame zs (items_view xs)
HaveSame-sorted xs ys zs moved is v =
    is_among-any v zs ∙ ap (list_any (equals v)) is ∙ any-dedup v ys ∙ sym (list_any-IsPermutation (equals v) xs ys moved) ∙ sym (is_among-any v xs)

-- ---- what a search by halves finds

pub below_at : {X : Type 0} (P : X → Type 0) (xs : List X) (i : ℕ) (d : X) → AllByRecursion P xs → i < length xs → P (get_or xs i d)
below_at P [] i d h lt = absurd (omega arith)
below_at P (x ∷ xs) zero d h lt = h.0
below_at P (x ∷ xs) (suc i) d h lt = below_at P xs i d h.1 (omega arith)

-- a greater value does not stand lower to v
rises_by : (k l v : Value) (r : Ordering) → collation k l ≡ Less → collation k v ≡ r → ordering_index r ≤ ordering_index (collation l v)
rises_by k l v Less less h = omega arith
rises_by k l v Equal less h =
    let above : collation l v ≡ Greater = collation_total.antisymm l v ∙ ap ordering_reverse (sym (collation_total.congr k v l h) ∙ less) in
    rw above (omega arith)
rises_by k l v Greater less h =
    let under : collation v k ≡ Less = collation_total.antisymm v k ∙ ap ordering_reverse h in
    let above : collation l v ≡ Greater = collation_total.antisymm l v ∙ ap ordering_reverse (collation_total.trans v k l under less) in
    rw above (omega arith)

rises : (v : Value) (xs : List Json) (i j : ℕ) (d : Json) → IsStrictlySortedBy value_order xs → i ≤ j → j < length xs
    → ordering_index (collation (view (get_or xs i d)) v) ≤ ordering_index (collation (view (get_or xs j d)) v)
unfolding IsStrictlySortedBy
rises v [] i j d s le lt = absurd (omega arith)
rises v (x ∷ xs) zero zero d s le lt = omega arith
rises v (x ∷ xs) zero (suc j) d s le lt =
    rises_by (view x) (view (get_or xs j d)) v (collation (view x) v) (below_at (λ y. value_order x y ≡ Less) xs j d s.0 (omega arith)) refl
rises v (x ∷ xs) (suc i) zero d s le lt = absurd (omega arith)
rises v (x ∷ xs) (suc i) (suc j) d s le lt = rises v xs i j d s.1 (omega arith) (omega arith)

turned : (v w : Value) (r : Ordering) → collation w v ≡ r → collation v w ≡ ordering_reverse r
turned v w r h = collation_total.antisymm v w ∙ ap ordering_reverse h

pub or_true : (b : Bool) → b || true ≡ true
or_true true = refl
or_true false = refl

found : (v : Value) (xs : List Json) (i : ℕ) → i < length xs → HoldsAt (λ y. collation (view y) v ≡ Equal) xs i → is_element v (items_view xs) ≡ true
found v [] i lt h = absurd (omega arith)
found v (x ∷ xs) zero lt h = ap (λ r. is_eq r || is_element v (items_view xs)) (turned v (view x) Equal (h x))
found v (x ∷ xs) (suc i) lt h = ap (λ b. equals v x || b) (found v xs i (omega arith) h) ∙ or_true (equals v x)

missing : (v : Value) (xs : List Json) (i : ℕ) → i ≤ length xs → AllWithin (λ y. collation (view y) v ≡ Less) xs 0 i → AllWithin (λ y. collation (view y) v ≡ Greater) xs i (length xs)
    → is_element v (items_view xs) ≡ false
missing v [] i le low high = refl
missing v (x ∷ xs) zero le low high =
    ap (λ r. is_eq r || is_element v (items_view xs)) (turned v (view x) Greater (high 0 x (omega arith) (omega arith)))
    ∙ missing v xs zero (omega arith) (λ k d ge lt. absurd (omega arith)) (λ k d ge lt. high (suc k) d (omega arith) (omega arith))
missing v (x ∷ xs) (suc i) le low high =
    ap (λ r. is_eq r || is_element v (items_view xs)) (turned v (view x) Less (low 0 x (omega arith) (omega arith)))
    ∙ missing v xs i (omega arith) (λ k d ge lt. low (suc k) d (omega arith) (omega arith)) (λ k d ge lt. high (suc k) d (omega arith) (omega arith))

pub searched : (v : Value) (xs : List Json) → IsStrictlySortedBy value_order xs → (r : Result ℕ ℕ) → IsSearchInRange r (length xs) → IsBinarySearchResult (λ y. collation (view y) v) xs r
    → is_ok r ≡ is_element v (items_view xs)
searched v xs s (Ok i) lt h = sym (found v xs i lt h)
searched v xs s (Err i) le h = let parts = h (λ j k d ge lt. rises v xs j k d s ge lt) in sym (missing v xs i le parts.0 parts.1)

pub searched_place : (v : Value) (xs : List Json) (r : Result ℕ ℕ) → IsSearchInRange r (length xs) → IsBinarySearchResult (λ y. collation (view y) v) xs r
    → IfOk r (λ i. (i < length xs) × HoldsAt (λ y. collation (view y) v ≡ Equal) xs i)
searched_place v xs (Ok i) lt h = (lt, h)
searched_place v xs (Err i) le h = tt

-- ---- a value that is there, and among the elements of a list

pub is_there-same : (values : List Json) (list : Value) → HaveSame values (elements_or_none list) → (current : Option Value) → is_there_and (meets IsIn list) current ≡ true
    → is_there_and (λ v. is_element v (items_view values)) current ≡ true
is_there-same values list same None there = there
is_there-same values list same (Some v) there = same v ∙ there
