use Rattle.std.proofs.Common.{◌≡◌, ◌⊎◌, ℕ, List, Option, Some, None, true, false, ◌||◌, drop, option_map}
use Rattle.std.specs.List.{list_all, list_any}
use Rattle.couch_json.specs.Parts.{is_object, is_there_and}
use Rattle.couch_json.specs.Value.{Value, object, member, no_members}
use Rattle.couch_json.specs.View.{items_of}
use Rattle.selector.specs.Bounds.{AreJust, contain, path_value}
use Rattle.selector.specs.Operators.{operator_named}
use Rattle.selector.specs.Truth.{are_true, is_true, item_truths}
use Rattle.selector.specs.View.{members_of}
use Rattle.selector.specs.declared.bounds.Bounds.TheVariants.{Any}
use Rattle.selector.proofs.bounds.+bounds.Given as goal

-- the one member of a selector is still to come, or it was the last
abbrev pub invariant-bounds_in-loop-condition : goal.invariant-bounds_in-loop-condition
invariant-bounds_in-loop-condition l = record {
  inside : (root : Value) (current : Option Value) → is_true root l.selector current ≡ true → contain l.bounds (path_value (option_map (λ p. p.now) l.path) current) ≡ true;
  left : (root : Value) (current : Option Value) → is_true root l.selector current ≡ true → are_true root (members_of (drop l.condition-index l.condition-items)) current ≡ true;
  one : (p : List ℕ) (b : Value) → option_map (λ p. p.now) l.path ≡ Some p → operator_named p ≡ None → is_object b ≡ false → l.selector ≡ object (member p b no_members)
      → ((l.bounds ≡ Any) × (members_of (drop l.condition-index l.condition-items) ≡ member p b no_members))
      ⊎ (AreJust b l.bounds × (members_of (drop l.condition-index l.condition-items) ≡ no_members));
}

abbrev pub invariant-bounds_of_all-loop-selector : goal.invariant-bounds_of_all-loop-selector
invariant-bounds_of_all-loop-selector l = record {
  inside : (root : Value) (current : Option Value) → list_all (λ b. b) (item_truths root (items_of l.selector-items) current) ≡ true
      → contain l.bounds (path_value (option_map (λ p. p.now) l.path) current) ≡ true;
  left : (root : Value) (current : Option Value) → list_all (λ b. b) (item_truths root (items_of l.selector-items) current) ≡ true
      → list_all (λ b. b) (item_truths root (items_of (drop l.selector-index l.selector-items)) current) ≡ true;
}

-- where one of the selectors is true the field is in the hull so far, or one of those that are left is true
abbrev pub invariant-bounds_of_some-loop-selector : goal.invariant-bounds_of_some-loop-selector
invariant-bounds_of_some-loop-selector l =
    (root : Value) (current : Option Value) → list_any (λ b. b) (item_truths root (items_of l.selector-items) current) ≡ true
    → is_there_and (λ b. contain b (path_value (option_map (λ p. p.now) l.path) current)) l.hull || list_any (λ b. b) (item_truths root (items_of (drop l.selector-index l.selector-items)) current) ≡ true
