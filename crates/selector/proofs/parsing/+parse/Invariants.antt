use Rattle.std.proofs.Common.{◌≡◌, drop, take, map}
use Rattle.couch_json.specs.View.{view, items_view, members_view}
use Rattle.selector.specs.Grammar.{filled_fault, items_fault, members_fault}
use Rattle.selector.specs.LookedUp.{AreLookedUp}
use Rattle.selector.proofs.Joined.{members_then}
use Rattle.selector.proofs.parsing.+parse.Given as goal

abbrev pub invariant-parse_members-loop-name : goal.invariant-parse_members-loop-name
invariant-parse_members-loop-name l = record {
  looked_up : AreLookedUp l.conditions.items;
  members : members_then l.conditions.items (members_view (drop l.name-index l.name-items)) ≡ members_view l.members.entries;
  fault : members_fault l.in_rule (members_view l.members.entries) l.level ≡ members_fault l.in_rule (members_view (drop l.name-index l.name-items)) l.level;
}

abbrev pub invariant-parse_items-loop-item : goal.invariant-parse_items-loop-item
invariant-parse_items-loop-item l = record {
  items : l.selectors.items ≡ map view (take l.item-index l.item-items);
  fault : filled_fault (items_view l.item-items) (items_fault l.in_rule (items_view l.item-items) l.level) ≡ items_fault l.in_rule (items_view (drop l.item-index l.item-items)) l.level;
}
