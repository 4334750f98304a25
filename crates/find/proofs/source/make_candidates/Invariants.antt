use Rattle.std.proofs.Common.{◌≡◌, ◌++◌, drop, map}
use Rattle.find.specs.inner.Sources.{candidate_of}
use Rattle.find.proofs.source.make_candidates.Given as goal

-- the candidates so far and those of the rows to come are those of all rows
abbrev pub invariant-loop-row : goal.invariant-loop-row
invariant-loop-row l =
    l.candidates.items ++ map candidate_of (drop l.row-index l.rows) ≡ map candidate_of l.rows
