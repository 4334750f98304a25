use Rattle.std.proofs.Common.{List, drop, ℕ}
use Rattle.ranks.specs.Counts.{AreChanges, AreRanksOf}
use Rattle.ranks.proofs.ranks.Ranks.change_all.Given as goal

-- the changes that are left make the new keys of those that are counted
abbrev pub invariant-loop-i : goal.invariant-loop-i
invariant-loop-i l =
    (old new : List (List ℕ)) → AreChanges l.changes old new → AreRanksOf l.initial.self old → (keys : List (List ℕ)) × AreChanges (drop l.i l.changes) keys new × AreRanksOf l.self keys
