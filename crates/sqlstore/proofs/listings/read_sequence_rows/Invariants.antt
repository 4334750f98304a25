use Rattle.sqlstore.proofs.Common.{AllByRecursion, IsSequenceRow, map, sequence_row, sequence_rows, ◌++◌, ◌<◌, ◌^◌, ◌≡◌}
use Rattle.std.proofs.Common.{All}
use Rattle.std.specs.Vec.Iter.{into_iter_items}
use Rattle.sqlstore.proofs.listings.read_sequence_rows.Given as goal

-- the rows so far and those of what is left are all, and where all rows are such rows those that are left are
abbrev pub invariant-loop-row : goal.invariant-loop-row
invariant-loop-row l =
    (sequence_rows l.read.items ++ map sequence_row (into_iter_items l.row-iterator) ≡ map sequence_row l.fn.rows.items)
    × All (λ r. r.sequence < 2 ^ 63) l.read.items
    × (AllByRecursion IsSequenceRow l.fn.rows.items → AllByRecursion IsSequenceRow (into_iter_items l.row-iterator))
