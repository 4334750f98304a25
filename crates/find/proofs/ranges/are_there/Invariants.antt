use Rattle.std.proofs.Common.{drop}
use Rattle.find.specs.inner.Planning.{AreThere}
use Rattle.find.proofs.ranges.are_there.Given as goal

-- where the fields to come are there too, all are
abbrev pub invariant-loop-field : goal.invariant-loop-field
invariant-loop-field l = AreThere (drop l.field-index l.fields) l.query → AreThere l.fields l.query
