use Rattle.std.proofs.Common.{◌≡◌, ℕ, ◌<◌, [], false, get_or}
use Rattle.ranks.specs.Counts.{is_below}
use Rattle.ranks.proofs.ranks.Ranks.place_of.Given as goal

abbrev pub invariant-loop-i : goal.invariant-loop-i
invariant-loop-i l = (k : ℕ) → k < l.i → is_below l.key (get_or l.self.segments k ([], 0)).0 ≡ false
