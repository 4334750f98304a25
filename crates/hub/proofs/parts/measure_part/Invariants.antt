use Rattle.std.proofs.Common.{◌≡◌, drop}
use Rattle.hub.specs.Parts.{part_from, part_length}
use Rattle.hub.proofs.parts.measure_part.Given as goal

-- what is left decides
abbrev pub invariant-loop-place : goal.invariant-loop-place
invariant-loop-place l = part_from l.place l.is_empty (drop l.place l.piece) ≡ part_length l.piece
