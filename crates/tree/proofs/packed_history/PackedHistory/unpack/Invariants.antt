use Rattle.std.proofs.Common.{◌≡◌}
use Rattle.std.specs.Vec.Iter.{into_iter_items}
use Rattle.tree.specs.History.{with_entries}
use Rattle.tree.proofs.packed_history.PackedHistory.unpack.Given as goal

-- the history so far, with the rows that are left, is the whole
abbrev pub invariant-loop-rev : goal.invariant-loop-rev
invariant-loop-rev l = with_entries l.history (into_iter_items l.rev-iterator) ≡ l.fn.self
