use Rattle.std.proofs.Common.{◌≡◌, drop, map, take}
use Rattle.couch_json.specs.Value.{put_all}
use Rattle.couch_json.specs.View.{view, members_view}
use Rattle.couch_json.proofs.copying.+copy.Given as goal

abbrev pub invariant-copy_items-loop-item : goal.invariant-copy_items-loop-item
invariant-copy_items-loop-item l = map view l.copies.items ≡ map view (take l.item-index l.item-items)

abbrev pub invariant-copy_members-loop-name : goal.invariant-copy_members-loop-name
invariant-copy_members-loop-name l = put_all (members_view (drop l.name-index l.name-items)) (members_view l.copies.entries) ≡ members_view l.members.entries
