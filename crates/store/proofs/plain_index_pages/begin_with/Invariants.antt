use Rattle.std.proofs.Common.{◌≡◌, drop}
use Rattle.couch_json.specs.KeyCuts.{begin_with}
use Rattle.couch_json.specs.View.{items_view}
use Rattle.store.proofs.plain_index_pages.begin_with.Given as goal

abbrev pub invariant-loop-item : goal.invariant-loop-item
invariant-loop-item l = begin_with (items_view l.front) (items_view l.items) ≡ begin_with (items_view (drop l.item-index l.front)) (items_view l.left.rest.now)
