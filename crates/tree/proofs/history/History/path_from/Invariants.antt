use Rattle.std.proofs.Common.{◌≡◌, ◌-◌, ◌++◌}
use Rattle.tree.specs.History.{path_from, onward}
use Rattle.tree.proofs.history.History.path_from.Given as goal

-- the revisions so far, and those that follow, are all
abbrev pub invariant-loop-step : goal.invariant-loop-step
invariant-loop-step l =
    l.revs.items ++ onward (path_from l.self (l.rev.number - l._step)) l.next ≡ path_from l.self l.rev.number l.rev
