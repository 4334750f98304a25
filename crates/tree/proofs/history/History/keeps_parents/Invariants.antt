use Rattle.std.proofs.Common.{◌≡◌, drop}
use Rattle.tree.specs.History.{keeps_parents}
use Rattle.tree.proofs.history.History.keeps_parents.Given as goal

-- what is left decides
abbrev pub invariant-loop-i : goal.invariant-loop-i
invariant-loop-i l = keeps_parents l.self (drop l.i l.path) ≡ keeps_parents l.self l.path
