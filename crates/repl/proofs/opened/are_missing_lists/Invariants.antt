use Rattle.std.proofs.Common.{◌≡◌, drop}
use Rattle.couch_json.specs.View.{members_view}
use Rattle.repl.specs.Replies.{are_missing_lists}
use Rattle.repl.proofs.opened.are_missing_lists.Given as goal

abbrev pub invariant-loop-id : goal.invariant-loop-id
invariant-loop-id l =
    are_missing_lists (members_view (drop l._id-index l._id-items)) ≡ are_missing_lists (members_view l.members.entries)
