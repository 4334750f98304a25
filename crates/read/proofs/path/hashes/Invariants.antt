use Rattle.std.proofs.Common.{◌≡◌, ◌++◌, map, drop}
use Rattle.couch_json.specs.Value.{text}
use Rattle.couch_json.specs.View.{view}
use Rattle.read.proofs.path.hashes.Given as goal

abbrev pub invariant-loop-rev : goal.invariant-loop-rev
invariant-loop-rev l = map view l.hashes.items ++ map (λ r. text r.hash) (drop l.rev-index l.path) ≡ map (λ r. text r.hash) l.path
