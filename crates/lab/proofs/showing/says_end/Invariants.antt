use Rattle.std.proofs.Common.{◌≡◌, drop, map}
use Rattle.world.specs.OneEvent.{sight_of}
use Rattle.lab.specs.Replies.{says_end}
use Rattle.lab.proofs.showing.says_end.Given as goal

abbrev pub invariant-loop-one : goal.invariant-loop-one
invariant-loop-one l = says_end (map sight_of (drop l.one-index l.seen)) ≡ says_end (map sight_of l.seen)
