use Rattle.name_map.proofs.Entries.{none_ascends}
use Rattle.name_map.proofs.map.NameMap.with_capacity.Goals as goal

pub invariant_of-result : goal.invariant_of-result
invariant_of-result g c = none_ascends _ c.in_ok-with_capacity.ensures.items
