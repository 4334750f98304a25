use Rattle.std.proofs.Common.{◌≡◌, ◌++◌, map, drop}
use Rattle.read.specs.Views.{key_row_object}
use Rattle.read.proofs.views.push_rows.Given as goal

abbrev pub invariant-loop-row : goal.invariant-loop-row
invariant-loop-row l = l.values ++ map key_row_object (drop l.row-index l.rows) ≡ l.initial.values ++ map key_row_object l.rows
