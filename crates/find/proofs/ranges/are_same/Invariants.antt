use Rattle.std.proofs.Common.{◌≡◌, drop}
use Rattle.find.proofs.ranges.are_same.Given as goal

-- where those to come are the same, all are
abbrev pub invariant-loop-field : goal.invariant-loop-field
invariant-loop-field l = drop l.field-index l.fields ≡ l.left.rest.now → l.fields ≡ l.others
