use Rattle.std.proofs.Common.{map, take}
use Rattle.std.specs.Io.KnownBytes.{Appends}
use Rattle.world.specs.OneEvent.{sight_of}
use Rattle.lab.specs.Replies.{sight_lines}
use Rattle.lab.proofs.showing.print_all.Given as goal

abbrev pub invariant-loop-one : goal.invariant-loop-one
invariant-loop-one g l = Appends (g.W.Write.contents l.initial.out) (g.W.Write.contents l.out) (sight_lines l.name (map sight_of (take l.one-index l.seen)))
