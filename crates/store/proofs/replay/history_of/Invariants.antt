use Rattle.std.proofs.Common.{◌≡◌, drop}
use Rattle.std.specs.FinMap as map
use Rattle.store.specs.Plain.{history_after}
use Rattle.store.specs.Writing.{additions}
use Rattle.store.proofs.replay.history_of.Given as goal

abbrev pub invariant-loop-write : goal.invariant-loop-write
invariant-loop-write l = history_after l.history l.id (additions (drop l.write-index l.write-items)) ≡ history_after map.empty l.id (additions l.writes.items)
