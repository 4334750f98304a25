use Rattle.std.proofs.Common.{◌≡◌, ◌++◌}
use Rattle.std.specs.Prelude.{reverse}
use Rattle.tree.specs.History.{leaves_marked}
use Rattle.tree.proofs.history.History.leaves_marked.Given as goal

-- the leaves so far, and those that are left, are all
abbrev pub invariant-loop-rev : goal.invariant-loop-rev
invariant-loop-rev l = l.leaves.items ++ reverse l.rev-iterator.iter ≡ leaves_marked l.deleted l.self
