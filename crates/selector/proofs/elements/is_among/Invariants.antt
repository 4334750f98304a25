use Rattle.std.proofs.Common.{◌≡◌, drop}
use Rattle.couch_json.specs.View.{view, items_view}
use Rattle.selector.specs.Truth.{is_element}
use Rattle.selector.proofs.elements.is_among.Given as goal

abbrev pub invariant-loop-item : goal.invariant-loop-item
invariant-loop-item l = is_element (view l.value) (items_view l.items) ≡ is_element (view l.value) (items_view (drop l.item-index l.items))
