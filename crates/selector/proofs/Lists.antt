-- Lists of the code beside the elements of an array.
use Rattle.std.proofs.Common.{ℕ, ◌≡◌, suc, ◌+◌, ◌*◌, ◌≤◌, Option, Some, List, [], ◌∷◌, Bool, true, false, length, max, nat_eq, refl, ap, arith, rules}
use Rattle.couch_json.specs.Value.{Value, depth}
use Rattle.selector.specs.declared.selector.Selector.TheDeep.{size-Selector}
use denote.Param.Weighed.{most}
use Rattle.couch_json.specs.View.{items_view}
use Rattle.couch_json.specs.declared.value.Json.{Json}
use Rattle.selector.specs.Grammar.{filled_fault}
use Rattle.selector.specs.declared.fault.SelectorFault.{SelectorFault}
use Rattle.selector.specs.declared.fault.SelectorFault.TheVariants.{Argument}
use Rattle.selector.specs.Truth.{each_item, each_of_some, items_length}

pub items_length-items_view : (xs : List Json) → items_length (items_view xs) ≡ length xs
items_length-items_view [] = refl
items_length-items_view (x ∷ xs) = ap suc (items_length-items_view xs)

-- each of elements that there are
pub each_of_there : (test : Value → Bool) (xs : List Json) → nat_eq (length xs) 0 ≡ false → each_item test (items_view xs) ≡ each_of_some test (items_view xs)
each_of_there test [] h = search (rules, h)
each_of_there test (x ∷ xs) h = refl

-- a list that has selectors, and one that has none
pub filled_fault-there : (xs : List Json) (among : Option SelectorFault) → nat_eq (length xs) 0 ≡ false → filled_fault (items_view xs) among ≡ among
filled_fault-there [] among h = search (rules, h)
filled_fault-there (x ∷ xs) among h = refl

pub filled_fault-none : (xs : List Json) (among : Option SelectorFault) → nat_eq (length xs) 0 ≡ true → filled_fault (items_view xs) among ≡ Some Argument
filled_fault-none [] among h = refl
filled_fault-none (x ∷ xs) among h = search (rules, h)

-- the measures that the prover takes of a list of selectors, and of each
pub most_below : (vs : List Value) → most size-Selector vs ≤ 2 * most (λ v. depth v + 1) vs
most_below [] = omega arith
most_below (v ∷ vs) = omega (arith, most_below vs)

-- the measure of selectors that a condition lists, by that of the condition
pub most_within : (deep : ℕ) (vs : List Value) → deep ≡ max (most (λ v. depth v + 1) vs) 0 → most size-Selector vs ≤ 2 * deep
most_within deep vs is = omega (arith, is, most_below vs)
