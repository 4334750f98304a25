use Rattle.std.proofs.Common.{◌≡◌, drop}
use Rattle.couch_json.specs.View.{members_view}
use Rattle.store.specs.SpecialMembers.{are_plain}
use Rattle.file_check.proofs.layout.texts.are_plain.Given as goal

abbrev pub invariant-loop-name : goal.invariant-loop-name
invariant-loop-name l = are_plain (members_view (drop l.name-index l.name-items)) ≡ are_plain (members_view l.members.entries)
