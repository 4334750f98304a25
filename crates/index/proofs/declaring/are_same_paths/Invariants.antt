use Rattle.index.proofs.Common.{length, take, ◌≡◌}
use Rattle.index.proofs.declaring.are_same_paths.Given as goal

-- those so far are the same
abbrev pub invariant-loop-i : goal.invariant-loop-i
invariant-loop-i l = (take l.i l.a ≡ take l.i l.b) × (length l.a ≡ length l.b)
