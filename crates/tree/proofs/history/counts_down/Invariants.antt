use Rattle.std.proofs.Common.{◌≡◌, drop}
use Rattle.tree.specs.Write.{counts_down}
use Rattle.tree.proofs.history.counts_down.Given as goal

-- what is left decides
abbrev pub invariant-loop-i : goal.invariant-loop-i
invariant-loop-i l = counts_down (drop l.i l.path) ≡ counts_down l.path
