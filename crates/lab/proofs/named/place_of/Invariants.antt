use Rattle.std.proofs.Common.{◌≡◌, drop, map}
use Rattle.lab.specs.Naming.{named_of, place_named}
use Rattle.lab.proofs.named.place_of.Given as goal

abbrev pub invariant-loop-place : goal.invariant-loop-place
invariant-loop-place g l = place_named l.place l.name (map named_of (drop l.place l.entries)) ≡ place_named 0 l.name (map named_of l.entries)
