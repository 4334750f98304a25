use Rattle.std.proofs.Common.{◌≤◌, drop}
use Rattle.couch_json.specs.Value.{items_depth, members_depth}
use Rattle.couch_json.specs.View.{items_view, members_view}
use Rattle.couch_json.proofs.nested.+within.Given as goal

abbrev pub invariant-items_within-loop-item : goal.invariant-items_within-loop-item
invariant-items_within-loop-item l = record {
  more : items_depth (items_view (drop l.item-index l.item-items)) ≤ items_depth (items_view l.item-items);
  enough : items_depth (items_view (drop l.item-index l.item-items)) ≤ l.limit → items_depth (items_view l.item-items) ≤ l.limit;
}

abbrev pub invariant-members_within-loop-name : goal.invariant-members_within-loop-name
invariant-members_within-loop-name l = record {
  more : members_depth (members_view (drop l._name-index l._name-items)) ≤ members_depth (members_view l.members.entries);
  enough : members_depth (members_view (drop l._name-index l._name-items)) ≤ l.limit → members_depth (members_view l.members.entries) ≤ l.limit;
}
