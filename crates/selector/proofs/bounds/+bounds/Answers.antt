use Rattle.std.proofs.Common.{◌≡◌, ◌+◌, ◌||◌, [], ◌∷◌, Option, Some, true, drop, option_map, subst, sym, ap, ◌∙◌, arith}
use Rattle.std.proofs.lemmas.Grind.{common_steps}
use Rattle.std.specs.List.{list_all, list_any}
use Rattle.couch_json.specs.Parts.{is_object}
use Rattle.couch_json.specs.Value.{Value}
use Rattle.couch_json.specs.View.{items_of}
use Rattle.selector.specs.Bounds.{contain, path_value}
use Rattle.selector.specs.Operators.{operator_named}
use Rattle.selector.specs.Truth.{are_true, is_true, item_truths, member_truth, truths}
use Rattle.selector.specs.View.{members_of, name_of, value_of}
use Rattle.selector.specs.declared.selector.Selector.TheDeep.{deep-Condition}
use Rattle.selector.proofs.Edges.{both_true, first_true, second_true}
use Rattle.selector.proofs.Hulls.{hull_contain, hull_end, hull_step}
use Rattle.selector.proofs.Lists.{most_within}
use Rattle.selector.proofs.OneMember.{IsInside-FieldIs, OneMember, OneMember-step}
use Rattle.selector.proofs.bounds.+bounds.Goals as goal

pub bounds_in-loop-condition-preserved : goal.bounds_in-loop-condition-preserved
bounds_in-loop-condition-preserved t c =
    let l = c.loop-condition in
    let items = c.deref-condition-items.result.now in
    let this = c.condition-item.result in
    let rest = drop (l.condition-index + 1) items in
    let path = option_map (λ p. p.now) c.args.path in
    let steps : drop l.condition-index items ≡ this ∷ rest = grind (arith, common_steps) in
    let truth = λ (root : Value) (current : Option Value).
    member_truth root (operator_named (name_of this)) (name_of this) (value_of this) (is_true root (value_of this)) (truths root (value_of this)) current in
    let left : (root : Value) (current : Option Value) → is_true root c.args.selector.now current ≡ true → are_true root (members_of (this ∷ rest)) current ≡ true =
    λ root current h. subst (λ left. are_true root (members_of left) current ≡ true) steps (l.invariant.left root current h) in
    record {
      inside = λ root current h. c.overlap-bounds.ensures.contain (path_value path current)
          ∙ both_true (contain l.bounds (path_value path current)) (contain c.bounds_of.result (path_value path current)) (l.invariant.inside root current h)
          (c.bounds_of.ensures.inside root current (first_true (truth root current) (are_true root (members_of rest) current) (left root current h)));
      left = λ root current h. second_true (truth root current) (are_true root (members_of rest) current) (left root current h);
      one = λ p b is_path none bare alone. OneMember-step p b (name_of this) (value_of this) (members_of rest) l.bounds c.bounds_of.result c.overlap-bounds.result c.overlap-bounds.ensures.any
          (λ named valued. c.bounds_of.ensures.one (is_path ∙ ap Some (sym named)) (ap operator_named named ∙ none) (ap is_object valued ∙ bare))
          (subst (λ left. OneMember p b l.bounds (members_of left)) steps (l.invariant.one p b is_path none bare alone));
    }

pub bounds_of-bounds_of_all-requires : goal.bounds_of-bounds_of_all-requires
bounds_of-bounds_of_all-requires t c =
    (omega (arith, c.decreases, most_within (deep-Condition c.args.condition.now) c.in-List-AllTrue-default-default.selectors.items (ap deep-Condition c.in-List-AllTrue-default-default.is)), tt)

pub bounds_of-bounds_of_some-requires : goal.bounds_of-bounds_of_some-requires
bounds_of-bounds_of_some-requires t c =
    (omega (arith, c.decreases, most_within (deep-Condition c.args.condition.now) c.in-List-SomeTrue-default-default.selectors.items (ap deep-Condition c.in-List-SomeTrue-default-default.is)), tt)

pub bounds_of-returns-in-FieldIs-clause-inside : goal.bounds_of-returns-in-FieldIs-clause-inside
bounds_of-returns-in-FieldIs-clause-inside t c =
    let step = c.in-FieldIs in
    let result = c.bounds_by_field-in-FieldIs in
    IsInside-FieldIs c.args.condition.now step.field step.value step.is (option_map (λ p. p.now) c.args.path) c.range_of.result result.result c.range_of.ensures result.ensures.inside

pub bounds_of_all-loop-selector-preserved : goal.bounds_of_all-loop-selector-preserved
bounds_of_all-loop-selector-preserved t c =
    let l = c.loop-selector in
    let items = c.deref-selector-items.result.now in
    let this = c.selector-item.result in
    let rest = drop (l.selector-index + 1) items in
    let path = option_map (λ p. p.now) c.args.path in
    let steps : drop l.selector-index items ≡ this ∷ rest = grind (arith, common_steps) in
    let others = λ (root : Value) (current : Option Value). list_all (λ b. b) (item_truths root (items_of rest) current) in
    let left : (root : Value) (current : Option Value) → list_all (λ b. b) (item_truths root (items_of items) current) ≡ true
    → list_all (λ b. b) (item_truths root (items_of (this ∷ rest)) current) ≡ true =
    λ root current h. subst (λ left. list_all (λ b. b) (item_truths root (items_of left) current) ≡ true) steps (l.invariant.left root current h) in
    record {
      inside = λ root current h. c.overlap-bounds.ensures.contain (path_value path current)
          ∙ both_true (contain l.bounds (path_value path current)) (contain c.bounds_in.result (path_value path current)) (l.invariant.inside root current h)
          (c.bounds_in.ensures.inside root current (first_true (is_true root this current) (others root current) (left root current h)));
      left = λ root current h. second_true (is_true root this current) (others root current) (left root current h);
    }

pub bounds_of_some-loop-selector-preserved : goal.bounds_of_some-loop-selector-preserved
bounds_of_some-loop-selector-preserved t c =
    let l = c.loop-selector in
    let items = c.deref-selector-items.result.now in
    let this = c.selector-item.result in
    let rest = drop (l.selector-index + 1) items in
    let path = option_map (λ p. p.now) c.args.path in
    let steps : drop l.selector-index items ≡ this ∷ rest = grind (arith, common_steps) in
    λ root current h.
    let field = path_value path current in
    hull_step (hull_contain l.hull field) (is_true root this current) (list_any (λ b. b) (item_truths root (items_of rest) current)) (contain c.hull_of.result field)
    (c.hull_of.ensures.first field) (λ holds. c.hull_of.ensures.second field (c.bounds_in.ensures.inside root current holds))
    (subst (λ left. hull_contain l.hull field || list_any (λ b. b) (item_truths root (items_of left) current) ≡ true) steps (l.invariant root current h))

pub bounds_of_some-returns-in-Some : goal.bounds_of_some-returns-in-Some
bounds_of_some-returns-in-Some t c =
    let l = c.loop-selector in
    let rest = drop l.selector-index c.deref-selector-items.result.now in
    let path = option_map (λ p. p.now) c.args.path in
    let none : rest ≡ [] = grind (arith, common_steps) in
    λ root current h.
    hull_end l.hull c.in-Some.bounds (path_value path current) (list_any (λ b. b) (item_truths root (items_of rest) current)) c.in-Some.is
    (ap (λ rest. list_any (λ b. b) (item_truths root (items_of rest) current)) none)
    (l.invariant root current (ap (λ items. list_any (λ b. b) (item_truths root (items_of items) current)) c.deref-selector-items.ensures.value ∙ h))
