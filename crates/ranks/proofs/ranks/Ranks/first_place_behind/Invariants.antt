use Rattle.std.proofs.Common.{◌≡◌}
use Rattle.ranks.specs.Counts.{before_of}
use Rattle.ranks.proofs.ranks.Ranks.first_place_behind.Given as goal

abbrev pub invariant-loop-i : goal.invariant-loop-i
invariant-loop-i l = l.before ≡ before_of l.self.head l.self.segments l.i
