use Rattle.std.proofs.Common.{◌≡◌, drop}
use Rattle.couch_json.specs.View.{items_view}
use Rattle.policy.specs.DesignDocuments.{are_paths}
use Rattle.policy.proofs.design_documents.are_paths.Given as goal

abbrev pub invariant-loop-field : goal.invariant-loop-field
invariant-loop-field l = are_paths (items_view (drop l.field-index l.fields)) ≡ are_paths (items_view l.fields)
