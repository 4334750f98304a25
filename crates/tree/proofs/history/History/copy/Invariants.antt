use Rattle.std.proofs.Common.{◌≡◌}
use Rattle.tree.specs.History.{with_entries}
use Rattle.tree.proofs.history.History.copy.Given as goal

-- the copy so far, with the nodes that are left, is the whole
abbrev pub invariant-loop-rev : goal.invariant-loop-rev
invariant-loop-rev l = with_entries l.copy l.rev-iterator ≡ l.self
