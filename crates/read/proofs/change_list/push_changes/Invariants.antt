use Rattle.std.proofs.Common.{◌≡◌, ◌++◌, map, drop}
use Rattle.store.specs.PageStructs.{sequence_rows}
use Rattle.read.specs.Changes.{change_object}
use Rattle.read.proofs.change_list.push_changes.Given as goal

abbrev pub invariant-loop-row : goal.invariant-loop-row
invariant-loop-row l =
    l.results ++ map change_object (sequence_rows (drop l.row-index l.rows)) ≡ l.initial.results ++ map change_object (sequence_rows l.rows)
