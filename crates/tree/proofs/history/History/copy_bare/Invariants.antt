use Rattle.std.proofs.Common.{◌≡◌}
use Rattle.tree.specs.History.{with_entries}
use Rattle.tree.specs.Outline.{all_bare, outline_of}
use Rattle.tree.proofs.history.History.copy_bare.Given as goal

-- the copy so far, with the nodes that are left and none of their bodies, is the whole outline
abbrev pub invariant-loop-rev : goal.invariant-loop-rev
invariant-loop-rev l = with_entries l.copy (all_bare l.rev-iterator) ≡ outline_of l.self
