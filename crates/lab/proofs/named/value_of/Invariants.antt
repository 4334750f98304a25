use Rattle.std.proofs.Common.{◌≡◌, drop, map}
use Rattle.lab.specs.Naming.{named_of, value_named}
use Rattle.lab.proofs.named.value_of.Given as goal

abbrev pub invariant-loop-entry : goal.invariant-loop-entry
invariant-loop-entry g l = value_named l.name (map named_of (drop l.entry-index l.entries)) ≡ value_named l.name (map named_of l.entries)
