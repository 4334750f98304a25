use Rattle.std.proofs.Common.{drop}
use Rattle.couch_json.specs.Lawful.{AreLawfulItems, AreLawfulMembers}
use Rattle.couch_json.specs.View.{items_view, members_view}
use Rattle.couch_json.proofs.walking.+walk.Given as goal

abbrev pub invariant-walk_items-loop-item : goal.invariant-walk_items-loop-item
invariant-walk_items-loop-item l = AreLawfulItems (items_view (drop l.item-index l.item-items)) → AreLawfulItems (items_view l.item-items)

abbrev pub invariant-walk_members-loop-name : goal.invariant-walk_members-loop-name
invariant-walk_members-loop-name l = AreLawfulMembers (members_view (drop l.name-index l.name-items)) → AreLawfulMembers (members_view l.members.entries)
