use Rattle.std.proofs.Common.{◌≡◌}
use Rattle.couch_json.specs.inner.Parsing.{put_whole}
use Rattle.couch_json.specs.Value.{no_members}
use Rattle.couch_json.specs.View.{members_view}
use Rattle.couch_json.proofs.parsing.keep_whole.Given as goal

abbrev pub invariant-loop-name : goal.invariant-loop-name
invariant-loop-name l = put_whole l.name-iterator (members_view l.members.entries) ≡ put_whole l.fn.found.entries no_members
