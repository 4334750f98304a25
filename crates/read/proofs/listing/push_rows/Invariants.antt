use Rattle.std.proofs.Common.{◌≡◌, ◌++◌, map, drop}
use Rattle.read.specs.Listing.{row_object}
use Rattle.read.proofs.listing.push_rows.Given as goal

abbrev pub invariant-loop-row : goal.invariant-loop-row
invariant-loop-row l = l.values ++ map row_object (drop l.row-index l.rows) ≡ l.initial.values ++ map row_object l.rows
