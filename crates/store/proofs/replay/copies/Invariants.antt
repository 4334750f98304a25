use Rattle.std.proofs.Common.{◌≡◌, take}
use Rattle.store.specs.Writing.{additions}
use Rattle.store.proofs.replay.copies.Given as goal

abbrev pub invariant-loop-write : goal.invariant-loop-write
invariant-loop-write l = additions l.copies.items ≡ additions (take l.write-index l.writes)
