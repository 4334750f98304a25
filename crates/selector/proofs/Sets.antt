-- What a set of values contains once values are added.
use Rattle.std.proofs.Common.{◌≡◌, List, [], ◌∷◌, ◌++◌, Bool, true, false, ◌||◌, Option, Some, sym, ap, ap₂, ◌∙◌}
use Rattle.std.specs.Ordering.{is_eq}
use Rattle.couch_json.specs.Collation.{collation}
use Rattle.couch_json.specs.Value.{Value}
use Rattle.couch_json.specs.View.{view, items_view}
use Rattle.couch_json.specs.declared.value.Json.{Json}
use Rattle.selector.specs.Bounds.{is_no_higher, is_no_lower}
use Rattle.selector.specs.Lookup.{is_over, is_under, lies_above, lies_below}
use Rattle.selector.specs.Truth.{is_element}
use Rattle.selector.specs.declared.value_set.Limit.{Limit}
use Rattle.selector.proofs.Decided.{or_assoc, or_crossed, or_turned}
use Rattle.selector.proofs.Edges.{above_first, above_second, below_first, below_second}
use Rattle.selector.proofs.Marks.{among-push}
use Rattle.selector.proofs.Searches.{equals}

-- a copy of a value is put behind the others
pub pushed : (v : Value) (xs ys : List Json) (x copy : Json) → ys ≡ xs ++ copy ∷ [] → view copy ≡ view x
    → is_element v (items_view ys) ≡ equals v x || is_element v (items_view xs)
pushed v xs ys x copy is same =
    ap (λ js. is_element v (items_view js)) is ∙ among-push v xs copy
    ∙ ap (λ w. is_element v (items_view xs) || is_eq (collation v w)) same ∙ or_turned (is_element v (items_view xs)) (equals v x)

-- a step of the loop that copies items behind values
pub among-copied : (v : Value) (first values more items taken : List Json) (x : Json) → taken ≡ items ++ x ∷ []
    → is_element v (items_view more) ≡ equals v x || is_element v (items_view values)
    → is_element v (items_view values) ≡ is_element v (items_view items) || is_element v (items_view first)
    → is_element v (items_view more) ≡ is_element v (items_view taken) || is_element v (items_view first)
among-copied v first values more items taken x steps one so_far =
    one ∙ ap (λ b. equals v x || b) so_far
    ∙ or_crossed (equals v x) (is_element v (items_view items)) (is_element v (items_view first))
    ∙ ap (λ b. b || is_element v (items_view first)) (sym (ap (λ js. is_element v (items_view js)) steps ∙ among-push v items x))

-- more values in a set
pub set_more : (more values added below above : Bool) → more ≡ added || values → more || (below || above) ≡ added || (values || (below || above))
set_more more values added below above is = ap (λ b. b || (below || above)) is ∙ sym (or_assoc added values (below || above))

-- ---- limits

pub reaches_below : (limit : Option Limit) (l : Limit) → limit ≡ Some l → (e w : Value) (b c r : Bool) → e ≡ view l.value → b ≡ l.inclusive → r ≡ is_no_lower e b w c
    → r ≡ true → (v : Value) → is_under w c v ≡ true → lies_below limit v ≡ true
reaches_below limit l is e w b c r same inside by holds v under =
    ap (λ (o : Option Limit). lies_below o v) is ∙ ap₂ (λ x i. is_under x i v) (sym same) (sym inside) ∙ below_first v e w b c (sym by ∙ holds) under

pub exceeds_below : (limit : Option Limit) (l : Limit) → limit ≡ Some l → (e w : Value) (b c r : Bool) → e ≡ view l.value → b ≡ l.inclusive → r ≡ is_no_lower e b w c
    → r ≡ false → (v : Value) → lies_below limit v ≡ true → is_under w c v ≡ true
exceeds_below limit l is e w b c r same inside by fails v under =
    below_second v e w b c (sym by ∙ fails) (ap₂ (λ x i. is_under x i v) same inside ∙ sym (ap (λ (o : Option Limit). lies_below o v) is) ∙ under)

pub reaches_above : (limit : Option Limit) (l : Limit) → limit ≡ Some l → (e w : Value) (b c r : Bool) → e ≡ view l.value → b ≡ l.inclusive → r ≡ is_no_higher e b w c
    → r ≡ true → (v : Value) → is_over w c v ≡ true → lies_above limit v ≡ true
reaches_above limit l is e w b c r same inside by holds v over =
    ap (λ (o : Option Limit). lies_above o v) is ∙ ap₂ (λ x i. is_over x i v) (sym same) (sym inside) ∙ above_first v e w b c (sym by ∙ holds) over

pub exceeds_above : (limit : Option Limit) (l : Limit) → limit ≡ Some l → (e w : Value) (b c r : Bool) → e ≡ view l.value → b ≡ l.inclusive → r ≡ is_no_higher e b w c
    → r ≡ false → (v : Value) → lies_above limit v ≡ true → is_over w c v ≡ true
exceeds_above limit l is e w b c r same inside by fails v over =
    above_second v e w b c (sym by ∙ fails) (ap₂ (λ x i. is_over x i v) same inside ∙ sym (ap (λ (o : Option Limit). lies_above o v) is) ∙ over)
