use Rattle.std.proofs.Common.{◌≡◌, Some, drop, option_map}
use Rattle.std.specs.List.{list_any}
use Rattle.couch_json.specs.View.{view, items_view}
use Rattle.selector.specs.Lookup.{place_decides}
use Rattle.selector.specs.LookedUp.{AreLookedUp}
use Rattle.selector.specs.Truth.{is_true, are_true, some_item, each_item}
use Rattle.selector.specs.View.{members_of}
use Rattle.selector.proofs.matching.+truth.Given as goal

abbrev pub invariant-is_true-loop-condition : goal.invariant-is_true-loop-condition
invariant-is_true-loop-condition l = record {
  truth : is_true (view l.root) l.selector (option_map (λ v. view v.now) l.current)
      ≡ are_true (view l.root) (members_of (drop l.condition-index l.condition-items)) (option_map (λ v. view v.now) l.current);
  looked_up : AreLookedUp (drop l.condition-index l.condition-items);
}

abbrev pub invariant-is_true_of_some-loop-item : goal.invariant-is_true_of_some-loop-item
invariant-is_true_of_some-loop-item l =
    some_item (λ v. is_true (view l.root) l.selector (Some v)) (items_view l.items)
    ≡ some_item (λ v. is_true (view l.root) l.selector (Some v)) (items_view (drop l.item-index l.items))

abbrev pub invariant-is_true_of_all-loop-item : goal.invariant-is_true_of_all-loop-item
invariant-is_true_of_all-loop-item l =
    each_item (λ v. is_true (view l.root) l.selector (Some v)) (items_view l.items)
    ≡ each_item (λ v. is_true (view l.root) l.selector (Some v)) (items_view (drop l.item-index l.items))

abbrev pub invariant-one_decides-loop-place : goal.invariant-one_decides-loop-place
invariant-one_decides-loop-place l =
    list_any (place_decides l.operator (view l.root) (option_map (λ v. view v.now) l.current) l.selectors.items) l.places.items
    ≡ list_any (place_decides l.operator (view l.root) (option_map (λ v. view v.now) l.current) l.selectors.items) (drop l.place-index l.place-items)
