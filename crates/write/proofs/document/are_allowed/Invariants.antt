use Rattle.std.proofs.Common.{◌≡◌, drop}
use Rattle.couch_json.specs.View.{members_view}
use Rattle.write.specs.Document.{are_allowed, is_document_member}
use Rattle.write.proofs.document.are_allowed.Given as goal

abbrev pub invariant-loop-name : goal.invariant-loop-name
invariant-loop-name l = are_allowed is_document_member (members_view (drop l.name-index l.name-items)) ≡ are_allowed is_document_member (members_view l.members.entries)
