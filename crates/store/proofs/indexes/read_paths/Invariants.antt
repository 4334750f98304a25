use Rattle.std.proofs.Common.{◌≡◌, ◌++◌, true, drop}
use Rattle.couch_json.specs.View.{items_view}
use Rattle.policy.specs.DesignDocuments.{are_paths}
use Rattle.store.specs.Indexes.{paths_in}
use Rattle.store.proofs.indexes.read_paths.Given as goal

abbrev pub invariant-loop-field : goal.invariant-loop-field
invariant-loop-field l =
    (l.paths.items ++ paths_in (items_view (drop l.field-index l.fields)) ≡ paths_in (items_view l.fields))
    × (are_paths (items_view (drop l.field-index l.fields)) ≡ true)
