use Rattle.std.proofs.Common.{◌≡◌, bytes_eq, drop}
use Rattle.std.specs.List.{list_any}
use Rattle.find.proofs.ranges.is_among.Given as goal

abbrev pub invariant-loop-other : goal.invariant-loop-other
invariant-loop-other l = list_any (λ f. bytes_eq l.field f) (drop l.other-index l.fields) ≡ list_any (λ f. bytes_eq l.field f) l.fields
