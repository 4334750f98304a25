use Rattle.transactions.proofs.Common.{additions, drop}
use Rattle.transactions.specs.inner.Placed.{ArePlain}
use Rattle.transactions.proofs.commits.are_plain.Given as goal

-- all writes are plain if and only if those that are left are
abbrev pub invariant-loop-write : goal.invariant-loop-write
invariant-loop-write l = (ArePlain (additions (drop l.write-index l.writes)) → ArePlain (additions l.writes)) × (ArePlain (additions l.writes) → ArePlain (additions (drop l.write-index l.writes)))
