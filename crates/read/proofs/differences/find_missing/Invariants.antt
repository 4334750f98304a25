use Rattle.std.proofs.Common.{◌≡◌, ◌++◌, map, drop}
use Rattle.couch_json.specs.View.{view}
use Rattle.read.specs.Differences.{missing_texts}
use Rattle.read.proofs.differences.find_missing.Given as goal

abbrev pub invariant-loop-rev : goal.invariant-loop-rev
invariant-loop-rev l = map view l.texts.items ++ missing_texts l.outline (drop l.rev-index l.revs) ≡ missing_texts l.outline l.revs
