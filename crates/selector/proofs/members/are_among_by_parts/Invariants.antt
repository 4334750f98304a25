use Rattle.std.proofs.Common.{◌≡◌, length}
use Rattle.std.specs.List.Sorted.{IsStrictlySortedBy}
use Rattle.couch_json.specs.View.{items_view}
use Rattle.selector.specs.Members.{value_order}
use Rattle.selector.specs.Truth.{each_item, is_element}
use Rattle.selector.proofs.members.are_among_by_parts.Given as goal

abbrev pub invariant-loop-rest : goal.invariant-loop-rest
invariant-loop-rest l = record {
  ascending : IsStrictlySortedBy value_order l.rest;
  each : each_item (λ w. is_element w (items_view l.items)) (items_view l.values) ≡ each_item (λ w. is_element w (items_view l.items)) (items_view l.rest);
}

abbrev pub decreases-loop-rest : goal.decreases-loop-rest
decreases-loop-rest l = length l.rest
