use Rattle.std.proofs.Common.{◌≡◌, map}
use Rattle.world.specs.OneEvent.{sight_of}
use Rattle.sync.specs.Passing.{end_in}
use Rattle.sync.proofs.passing.end_of.Given as goal

abbrev pub invariant-loop-one : goal.invariant-loop-one
invariant-loop-one l = end_in (map sight_of l.one-iterator.rest.items) ≡ end_in (map sight_of l.fn.seen.items)
