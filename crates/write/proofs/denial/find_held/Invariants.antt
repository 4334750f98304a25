use Rattle.std.proofs.Common.{◌≡◌, drop}
use Rattle.write.specs.Admission.{nearest_held}
use Rattle.write.proofs.denial.find_held.Given as goal

abbrev pub invariant-loop-rev : goal.invariant-loop-rev
invariant-loop-rev l = nearest_held l.history (drop l.rev-index l.revs) ≡ nearest_held l.history l.revs
