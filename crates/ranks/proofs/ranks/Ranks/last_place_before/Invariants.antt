use Rattle.std.proofs.Common.{◌≡◌, ◌+◌, ◌≤◌}
use Rattle.ranks.specs.Counts.{before_of, before_place}
use Rattle.ranks.proofs.ranks.Ranks.last_place_before.Given as goal

abbrev pub invariant-loop-i : goal.invariant-loop-i
invariant-loop-i l = record { before : l.before ≡ before_place l.self.head l.self.segments l.i; next : l.before + l.count ≡ before_of l.self.head l.self.segments l.i; most : l.before ≤ l.rank }
