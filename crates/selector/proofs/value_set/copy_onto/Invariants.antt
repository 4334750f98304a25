use Rattle.std.proofs.Common.{◌≡◌, ◌||◌, take}
use Rattle.couch_json.specs.Value.{Value}
use Rattle.couch_json.specs.View.{items_view}
use Rattle.selector.specs.Truth.{is_element}
use Rattle.selector.proofs.value_set.copy_onto.Given as goal

abbrev pub invariant-loop-item : goal.invariant-loop-item
invariant-loop-item l =
    (v : Value) → is_element v (items_view l.values.items) ≡ is_element v (items_view (take l.item-index l.items)) || is_element v (items_view l.initial.values.items)
