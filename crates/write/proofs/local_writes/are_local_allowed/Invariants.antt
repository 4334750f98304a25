use Rattle.std.proofs.Common.{◌≡◌, drop}
use Rattle.couch_json.specs.View.{members_view}
use Rattle.write.specs.Document.{are_allowed}
use Rattle.write.specs.LocalWrites.{is_local_member}
use Rattle.write.proofs.local_writes.are_local_allowed.Given as goal

abbrev pub invariant-loop-name : goal.invariant-loop-name
invariant-loop-name l = are_allowed is_local_member (members_view (drop l.name-index l.name-items)) ≡ are_allowed is_local_member (members_view l.members.entries)
