use Rattle.std.proofs.Common.{◌≡◌, drop}
use Rattle.auth.specs.Roles.{is_among}
use Rattle.couch_json.specs.View.{items_view}
use Rattle.policy.specs.Security.{item_texts}
use Rattle.policy.proofs.group.has_text.Given as goal

abbrev pub invariant-loop-item : goal.invariant-loop-item
invariant-loop-item l = is_among l.text (item_texts (items_view (drop l.item-index l.items))) ≡ is_among l.text (item_texts (items_view l.items))
