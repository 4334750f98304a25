use Rattle.std.specs.List.{AllByRecursion}
use Rattle.std.specs.Vec.Iter.{into_iter_items}
use Rattle.tables.specs.Shown.{IsShownRevision}
use Rattle.transactions.proofs.Common.{entry_shown, history_shown, map, with_entries, ◌≡◌}
use Rattle.transactions.proofs.histories.read_history.Given as goal

abbrev pub invariant-loop-row : goal.invariant-loop-row
invariant-loop-row l =
    (with_entries l.history (map entry_shown (into_iter_items l.row-iterator)) ≡ history_shown l.fn.rows.items)
    × (AllByRecursion IsShownRevision l.fn.rows.items → AllByRecursion IsShownRevision (into_iter_items l.row-iterator))
