use Rattle.sqlstore.proofs.Common.{AllByRecursion, IsListedDocument, live_rows, ◌++◌, ◌≡◌}
use Rattle.std.specs.Vec.Iter.{into_iter_items}
use Rattle.sqlstore.proofs.listings.read_live_rows.Given as goal

-- the rows so far and those of what is left are all, and where all rows are such rows those that are left are
abbrev pub invariant-loop-row : goal.invariant-loop-row
invariant-loop-row l =
    (l.live.items ++ live_rows (into_iter_items l.row-iterator) ≡ live_rows l.fn.rows.items)
    × (AllByRecursion IsListedDocument l.fn.rows.items → AllByRecursion IsListedDocument (into_iter_items l.row-iterator))
