use Rattle.std.proofs.Common.{◌≡◌, drop, map}
use Rattle.couch_json.specs.Value.{no_members}
use Rattle.couch_json.specs.View.{members_view}
use Rattle.repl.specs.Calls.{revisions_put}
use Rattle.repl.specs.Listed.{revisions_of}
use Rattle.repl.proofs.bodies.compare_body.Given as goal

abbrev pub invariant-loop-document : goal.invariant-loop-document
invariant-loop-document l =
    revisions_put (map revisions_of (drop l.document-index l.listed)) (members_view l.members.entries) ≡ revisions_put (map revisions_of l.listed) no_members
