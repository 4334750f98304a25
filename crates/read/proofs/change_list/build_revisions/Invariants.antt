use Rattle.std.proofs.Common.{◌≡◌, ◌++◌, map, drop}
use Rattle.couch_json.specs.View.{view}
use Rattle.read.specs.Listing.{revision_object}
use Rattle.read.proofs.change_list.build_revisions.Given as goal

abbrev pub invariant-loop-rev : goal.invariant-loop-rev
invariant-loop-rev l = map view l.values.items ++ map revision_object (drop l.rev-index l.revs) ≡ map revision_object l.revs
