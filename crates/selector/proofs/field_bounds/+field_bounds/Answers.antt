use Rattle.std.proofs.Common.{◌≡◌, ◌+◌, ◌||◌, [], ◌∷◌, Option, Some, true, drop, subst, ap, ◌∙◌, arith}
use Rattle.std.proofs.lemmas.Grind.{common_steps}
use Rattle.std.proofs.lemmas.Result.{on_ok_weaker}
use Rattle.std.specs.List.{list_all, list_any}
use Rattle.couch_json.specs.Parts.{is_object}
use Rattle.couch_json.specs.Value.{Value}
use Rattle.couch_json.specs.View.{items_of}
use Rattle.selector.specs.Bounds.{AreJust, contain, path_value}
use Rattle.selector.specs.FieldBounds.{bounds_at, has_within}
use Rattle.selector.specs.Operators.{operator_named}
use Rattle.selector.specs.Truth.{are_true, is_true, item_truths, member_truth, truths}
use Rattle.selector.specs.View.{members_of, name_of, value_of}
use Rattle.selector.specs.declared.selector.Selector.TheDeep.{deep-Condition}
use Rattle.selector.proofs.Edges.{first_true, second_true}
use Rattle.selector.proofs.FieldTables.{LeftOrOnly, LeftOrOnly-end, LeftOrOnly-next, lie_in_any}
use Rattle.selector.proofs.Hulls.{hull_step, or_false}
use Rattle.selector.proofs.Lists.{most_within}
use Rattle.selector.proofs.OneMember.{OneMember, OneMember-next}
use Rattle.selector.proofs.field_bounds.+field_bounds.Goals as goal

pub add_selector-loop-condition-preserved : goal.add_selector-loop-condition-preserved
add_selector-loop-condition-preserved t c =
    let l = c.loop-condition in
    let items = c.deref-condition-items.result.now in
    let this = c.condition-item.result in
    let rest = drop (l.condition-index + 1) items in
    let added = c.in_ok-add_condition.ensures in
    let more = c.add_condition.new.fields in
    let steps : drop l.condition-index items ≡ this ∷ rest = grind (arith, common_steps) in
    let truth = λ (root : Value) (current : Option Value).
    member_truth root (operator_named (name_of this)) (name_of this) (value_of this) (is_true root (value_of this)) (truths root (value_of this)) current in
    let left : (root : Value) (current : Option Value) → is_true root c.args.selector.now current ≡ true → are_true root (members_of (this ∷ rest)) current ≡ true =
    λ root current h. subst (λ left. are_true root (members_of left) current ≡ true) steps (l.invariant.left root current h) in
    record {
      inside = λ root current h lie. added.inside root current (first_true (truth root current) (are_true root (members_of rest) current) (left root current h))
          (l.invariant.inside root current h lie);
      narrower = λ path field h. l.invariant.narrower path field (added.narrower path field h);
      left = λ root current h. second_true (truth root current) (are_true root (members_of rest) current) (left root current h);
      one = λ p b none bare alone empty. OneMember-next p b (name_of this) (value_of this) (members_of rest) (bounds_at l.fields p) (bounds_at more p)
          (λ named valued any. subst (λ q. AreJust (value_of this) (bounds_at more q)) named
          (added.one (ap operator_named named ∙ none) (ap is_object valued ∙ bare) (ap (bounds_at l.fields) named ∙ any)))
          (subst (λ left. OneMember p b (bounds_at l.fields p) (members_of left)) steps (l.invariant.one p b none bare alone empty));
      bare = λ p b none bare has. LeftOrOnly-next p b (name_of this) (value_of this) (members_of rest) l.fields more added.narrower
          (λ named valued. added.bare (ap operator_named named ∙ none) (ap is_object valued ∙ bare))
          (subst (λ left. LeftOrOnly p b l.fields (members_of left)) steps (l.invariant.bare p b none bare has));
    }

pub add_selector-returns-clause-bare : goal.add_selector-returns-clause-bare
add_selector-returns-clause-bare t c =
    let l = c.loop-condition in
    let rest = drop l.condition-index c.deref-condition-items.result.now in
    let gone : rest ≡ [] = grind (arith, common_steps) in
    λ p b none bare has. LeftOrOnly-end p b l.fields (members_of rest) (ap members_of gone) (l.invariant.bare p b none bare has)

pub add_condition-add_all-requires : goal.add_condition-add_all-requires
add_condition-add_all-requires t c =
    (omega (arith, c.decreases, most_within (deep-Condition c.args.condition.now) c.in-List-AllTrue-default-default.selectors.items (ap deep-Condition c.in-List-AllTrue-default-default.is)), tt)

pub add_condition-add_some-requires : goal.add_condition-add_some-requires
add_condition-add_some-requires t c =
    (omega (arith, c.decreases, most_within (deep-Condition c.args.condition.now) c.in-List-SomeTrue-default-default.selectors.items (ap deep-Condition c.in-List-SomeTrue-default-default.is)), tt)

pub add_all-loop-selector-preserved : goal.add_all-loop-selector-preserved
add_all-loop-selector-preserved t c =
    let l = c.loop-selector in
    let items = c.deref-selector-items.result.now in
    let this = c.selector-item.result in
    let rest = drop (l.selector-index + 1) items in
    let added = c.in_ok-add_selector.ensures in
    let steps : drop l.selector-index items ≡ this ∷ rest = grind (arith, common_steps) in
    let others = λ (root : Value) (current : Option Value). list_all (λ b. b) (item_truths root (items_of rest) current) in
    let left : (root : Value) (current : Option Value) → list_all (λ b. b) (item_truths root (items_of items) current) ≡ true
    → list_all (λ b. b) (item_truths root (items_of (this ∷ rest)) current) ≡ true =
    λ root current h. subst (λ left. list_all (λ b. b) (item_truths root (items_of left) current) ≡ true) steps (l.invariant.left root current h) in
    record {
      inside = λ root current h lie. added.inside root current (first_true (is_true root this current) (others root current) (left root current h)) (l.invariant.inside root current h lie);
      narrower = λ path field h. l.invariant.narrower path field (added.narrower path field h);
      left = λ root current h. second_true (is_true root this current) (others root current) (left root current h);
    }

pub add_some-loop-selector-preserved : goal.add_some-loop-selector-preserved
add_some-loop-selector-preserved t c =
    let l = c.loop-selector in
    let items = c.deref-selector-items.result.now in
    let this = c.selector-item.result in
    let rest = drop (l.selector-index + 1) items in
    let hull = c.in_ok-hull_with.field-0 in
    let steps : drop l.selector-index items ≡ this ∷ rest = grind (arith, common_steps) in
    λ root current h path.
    let field = path_value (Some path) current in
    hull_step (has_within l.hull path field) (is_true root this current) (list_any (λ b. b) (item_truths root (items_of rest) current)) (contain (bounds_at hull path) field)
    (c.in_ok-hull_with.ensures.first path field)
    (λ holds. c.in_ok-hull_with.ensures.second path field (c.in_ok-add_selector.ensures.inside root current holds (lie_in_any c.new-branch.result c.new-branch.ensures current) path))
    (subst (λ left. has_within l.hull path field || list_any (λ b. b) (item_truths root (items_of left) current) ≡ true) steps (l.invariant root current h path))

pub add_some-returns-clause-inside : goal.add_some-returns-clause-inside
add_some-returns-clause-inside t c =
    let l = c.loop-selector in
    let rest = drop l.selector-index c.deref-selector-items.result.now in
    let none : rest ≡ [] = grind (arith, common_steps) in
    on_ok_weaker c.add_hull.result
    (λ inside root current h lie. inside current
    (λ path. or_false (has_within l.hull path (path_value (Some path) current))
    (subst (λ left. has_within l.hull path (path_value (Some path) current) || list_any (λ b. b) (item_truths root (items_of left) current) ≡ true) none
    (l.invariant root current (ap (λ items. list_any (λ b. b) (item_truths root (items_of items) current)) c.deref-selector-items.ensures.value ∙ h) path))) lie)
    c.add_hull.ensures.inside
