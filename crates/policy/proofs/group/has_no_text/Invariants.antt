use Rattle.std.proofs.Common.{◌≡◌, drop}
use Rattle.couch_json.specs.View.{items_view}
use Rattle.policy.specs.Security.{is_empty, item_texts}
use Rattle.policy.proofs.group.has_no_text.Given as goal

abbrev pub invariant-loop-item : goal.invariant-loop-item
invariant-loop-item l = is_empty (item_texts (items_view (drop l.item-index l.items))) ≡ is_empty (item_texts (items_view l.items))
