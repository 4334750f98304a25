use Rattle.index.proofs.Common.{drop, true, ◌++◌, ◌≡◌}
use Rattle.couch_json.specs.View.{items_view}
use Rattle.policy.specs.DesignDocuments.{are_paths}
use Rattle.store.specs.Indexes.{paths_in}
use Rattle.index.proofs.reading.read_paths.Given as goal

-- the paths so far and those of what is left are those of all, and where all are paths those that are left are
abbrev pub invariant-loop-item : goal.invariant-loop-item
invariant-loop-item l =
    (l.paths.items ++ paths_in (items_view (drop l.item-index l.items)) ≡ paths_in (items_view l.items))
    × (are_paths (items_view l.items) ≡ true → are_paths (items_view (drop l.item-index l.items)) ≡ true)
