use Rattle.std.proofs.Common.{◌≡◌, drop}
use Rattle.store.specs.Plain.{place_from}
use Rattle.store.proofs.databases.place_of.Given as goal

abbrev pub invariant-loop-at : goal.invariant-loop-at
invariant-loop-at l = place_from l.at l.name (drop l.at l.databases.items) ≡ place_from 0 l.name l.databases.items
