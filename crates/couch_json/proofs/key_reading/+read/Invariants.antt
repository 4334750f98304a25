use Rattle.std.proofs.Common.{◌+◌, ◌*◌, ◌≤◌}
use Rattle.couch_json.specs.Value.{items_depth, members_depth}
use Rattle.couch_json.specs.View.{items_view, members_view}
use Rattle.couch_json.proofs.KeyReading.{ItemsLeft, MembersLeft}
use Rattle.couch_json.proofs.key_reading.+read.Given as goal

abbrev pub decreases-read_value : goal.decreases-read_value
decreases-read_value l = 2 * l.limit

abbrev pub decreases-read_items : goal.decreases-read_items
decreases-read_items l = 2 * l.limit + 1

abbrev pub decreases-read_members : goal.decreases-read_members
decreases-read_members l = 2 * l.limit + 1

abbrev pub invariant-read_items-loop-count : goal.invariant-read_items-loop-count
invariant-read_items-loop-count l = record {
  left : ItemsLeft l.limit l.bytes l.items.items l.rest l._count;
  flat : items_depth (items_view l.items.items) ≤ l.limit;
}

abbrev pub invariant-read_members-loop-count : goal.invariant-read_members-loop-count
invariant-read_members-loop-count l = record {
  left : MembersLeft l.limit l.bytes (members_view l.members.entries) l.rest l._count;
  flat : members_depth (members_view l.members.entries) ≤ l.limit;
}
