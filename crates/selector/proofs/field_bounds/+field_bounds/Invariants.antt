use Rattle.std.proofs.Common.{◌≡◌, ℕ, List, Option, Some, None, true, false, ◌||◌, drop}
use Rattle.std.specs.List.{list_all, list_any}
use Rattle.couch_json.specs.Parts.{is_object}
use Rattle.couch_json.specs.Value.{Value, member_of, object, member, no_members}
use Rattle.couch_json.specs.View.{items_of}
use Rattle.selector.specs.Bounds.{path_value}
use Rattle.selector.specs.FieldBounds.{AreWider, LieWithin, bounds_at, has_within}
use Rattle.selector.specs.Operators.{operator_named}
use Rattle.selector.specs.Truth.{are_true, is_true, item_truths}
use Rattle.selector.specs.View.{members_of}
use Rattle.selector.specs.declared.bounds.Bounds.TheVariants.{Any}
use Rattle.selector.proofs.FieldTables.{LeftOrOnly}
use Rattle.selector.proofs.OneMember.{OneMember}
use Rattle.selector.proofs.field_bounds.+field_bounds.Given as goal

-- the one member of a selector is still to come, or it was the last; a member with a bare value is still to come, or the
-- bounds of its field contain no other value
abbrev pub invariant-add_selector-loop-condition : goal.invariant-add_selector-loop-condition
invariant-add_selector-loop-condition l = record {
  inside : (root : Value) (current : Option Value) → is_true root l.selector current ≡ true → LieWithin l.initial.fields current → LieWithin l.fields current;
  narrower : AreWider l.fields l.initial.fields;
  left : (root : Value) (current : Option Value) → is_true root l.selector current ≡ true → are_true root (members_of (drop l.condition-index l.condition-items)) current ≡ true;
  one : (p : List ℕ) (b : Value) → operator_named p ≡ None → is_object b ≡ false → l.selector ≡ object (member p b no_members)
      → bounds_at l.initial.fields p ≡ Any → OneMember p b (bounds_at l.fields p) (members_of (drop l.condition-index l.condition-items));
  bare : (p : List ℕ) (b : Value) → operator_named p ≡ None → is_object b ≡ false → member_of l.selector p ≡ Some b
      → LeftOrOnly p b l.fields (members_of (drop l.condition-index l.condition-items));
}

abbrev pub invariant-add_all-loop-selector : goal.invariant-add_all-loop-selector
invariant-add_all-loop-selector l = record {
  inside : (root : Value) (current : Option Value) → list_all (λ b. b) (item_truths root (items_of l.selector-items) current) ≡ true
      → LieWithin l.initial.fields current → LieWithin l.fields current;
  narrower : AreWider l.fields l.initial.fields;
  left : (root : Value) (current : Option Value) → list_all (λ b. b) (item_truths root (items_of l.selector-items) current) ≡ true
      → list_all (λ b. b) (item_truths root (items_of (drop l.selector-index l.selector-items)) current) ≡ true;
}

-- where one of the selectors is true the fields lie within the hull so far, or one of those that are left is true
abbrev pub invariant-add_some-loop-selector : goal.invariant-add_some-loop-selector
invariant-add_some-loop-selector l =
    (root : Value) (current : Option Value) → list_any (λ b. b) (item_truths root (items_of l.selector-items) current) ≡ true
    → (path : List ℕ) → has_within l.hull path (path_value (Some path) current) || list_any (λ b. b) (item_truths root (items_of (drop l.selector-index l.selector-items)) current) ≡ true
