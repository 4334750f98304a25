use Rattle.std.proofs.Common.{drop, ◌≡◌}
use Rattle.std.specs.List.{list_any}
use Rattle.sqlstore.specs.inner.Designs.{is_in_design_range}
use Rattle.sqlstore.specs.inner.Marks.{ids_of}
use Rattle.sqlstore.proofs.design_range.writes_design.Given as goal

-- the writes that are left decide
abbrev pub invariant-loop-write : goal.invariant-loop-write
invariant-loop-write l = list_any is_in_design_range (ids_of (drop l.write-index l.writes)) ≡ list_any is_in_design_range (ids_of l.writes)
