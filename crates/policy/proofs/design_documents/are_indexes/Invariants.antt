use Rattle.std.proofs.Common.{◌≡◌, drop}
use Rattle.couch_json.specs.View.{members_view}
use Rattle.policy.specs.DesignDocuments.{are_indexes}
use Rattle.policy.proofs.design_documents.are_indexes.Given as goal

abbrev pub invariant-loop-name : goal.invariant-loop-name
invariant-loop-name l = are_indexes (members_view (drop l.name-index l.name-items)) ≡ are_indexes (members_view l.indexes.entries)
