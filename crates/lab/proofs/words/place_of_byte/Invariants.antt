use Rattle.std.proofs.Common.{◌≡◌, ◌==◌, drop}
use Rattle.std.specs.List.{position_from}
use Rattle.lab.proofs.words.place_of_byte.Given as goal

abbrev pub invariant-loop-place : goal.invariant-loop-place
invariant-loop-place l = position_from (λ b. b == l.wanted) l.place (drop l.place l.bytes) ≡ position_from (λ b. b == l.wanted) 0 l.bytes
