use Rattle.std.proofs.Common.{◌≡◌, drop}
use Rattle.couch_json.specs.Collation.{items_collation, members_collation}
use Rattle.couch_json.specs.View.{items_view, members_view}
use Rattle.couch_json.proofs.collation.+collate.Given as goal

abbrev pub invariant-collate_items-loop-item : goal.invariant-collate_items-loop-item
invariant-collate_items-loop-item l =
    items_collation (items_view l.left.items) (items_view l.right.items)
    ≡ items_collation (items_view (drop l.item-index l.item-items)) (items_view l.others.rest.now)

abbrev pub invariant-collate_members-loop-name : goal.invariant-collate_members-loop-name
invariant-collate_members-loop-name l =
    members_collation (members_view l.left.entries) (members_view l.right.entries)
    ≡ members_collation (members_view (drop l.name-index l.name-items)) (members_view l.others.rest.now)
