use Rattle.std.proofs.Common.{drop, map, ◌++◌, ◌≡◌}
use Rattle.sqlstore.specs.inner.Designs.{row_of_design}
use Rattle.sqlstore.proofs.known_designs.copy_rows.Given as goal

-- the rows so far and those of what is left are all
abbrev pub invariant-loop-design : goal.invariant-loop-design
invariant-loop-design l = l.rows.items ++ map row_of_design (drop l.design-index l.designs) ≡ map row_of_design l.designs
