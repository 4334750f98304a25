use Rattle.std.proofs.Common.{◌≡◌, ◌++◌, drop, map}
use Rattle.couch_json.specs.View.{view}
use Rattle.repl.proofs.report.copy_values.Given as goal

abbrev pub invariant-loop-value : goal.invariant-loop-value
invariant-loop-value l = map view l.copies.items ++ map view (drop l.value-index l.values) ≡ map view l.values
