use Rattle.std.proofs.Common.{◌+◌, ◌*◌, length, option_map}
use Rattle.couch_json.specs.View.{items_view}
use Rattle.couch_json.proofs.TokensRead.{AreItemsReadTo, AreMembersReadTo}
use Rattle.couch_json.proofs.parsing.+read_value.Given as goal

abbrev pub decreases-read_value : goal.decreases-read_value
decreases-read_value l = 2 * l.depth

abbrev pub decreases-read_items : goal.decreases-read_items
decreases-read_items l = 2 * l.depth + 1

abbrev pub decreases-read_members : goal.decreases-read_members
decreases-read_members l = 2 * l.depth + 1

abbrev pub invariant-read_items-items : goal.invariant-read_items-items
invariant-read_items-items l = AreItemsReadTo l.depth l.initial.reader (option_map (λ vs. items_view vs.items) l.found) l.reader

abbrev pub decreases-read_items-items : goal.decreases-read_items-items
decreases-read_items-items l = length l.reader

abbrev pub invariant-read_members-members : goal.invariant-read_members-members
invariant-read_members-members l = AreMembersReadTo l.depth l.initial.reader l.found.entries l.reader

abbrev pub decreases-read_members-members : goal.decreases-read_members-members
decreases-read_members-members l = length l.reader
