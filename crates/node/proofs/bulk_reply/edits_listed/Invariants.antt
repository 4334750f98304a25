use Rattle.std.proofs.Common.{◌≡◌, ◌++◌, map}
use Rattle.std.specs.Vec.Iter.{into_iter_items}
use Rattle.write.specs.BulkResults.{told_of}
use Rattle.node.specs.Bulk.{edit_listed}
use Rattle.node.proofs.bulk_reply.edits_listed.Given as goal

-- the elements so far and those to come are those of all edits
abbrev pub invariant-loop-told : goal.invariant-loop-told
invariant-loop-told l =
    l.values ++ map (edit_listed l.caller) (map told_of (into_iter_items l.told-iterator)) ≡ map (edit_listed l.caller) (map told_of l.fn.results.items)
