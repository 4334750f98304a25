use Rattle.std.specs.List.{AllByRecursion}
use Rattle.std.specs.Vec.Iter.{into_iter_items}
use Rattle.tables.specs.Shown.{IsShownOutline}
use Rattle.transactions.proofs.Common.{node_shown, outline_shown, map, with_entries, ◌≡◌}
use Rattle.transactions.proofs.histories.read_outline.Given as goal

abbrev pub invariant-loop-row : goal.invariant-loop-row
invariant-loop-row l =
    (with_entries l.outline (map node_shown (into_iter_items l.row-iterator)) ≡ outline_shown l.fn.rows.items)
    × (AllByRecursion IsShownOutline l.fn.rows.items → AllByRecursion IsShownOutline (into_iter_items l.row-iterator))
