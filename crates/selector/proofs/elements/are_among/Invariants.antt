use Rattle.std.proofs.Common.{◌≡◌, drop}
use Rattle.couch_json.specs.View.{items_view}
use Rattle.selector.specs.Truth.{is_element, each_item}
use Rattle.selector.proofs.elements.are_among.Given as goal

abbrev pub invariant-loop-value : goal.invariant-loop-value
invariant-loop-value l =
    each_item (λ w. is_element w (items_view l.items)) (items_view l.wanted)
    ≡ each_item (λ w. is_element w (items_view l.items)) (items_view (drop l.value-index l.wanted))
