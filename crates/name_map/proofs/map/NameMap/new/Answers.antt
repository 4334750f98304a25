use Rattle.name_map.proofs.Entries.{none_ascends}
use Rattle.name_map.proofs.map.NameMap.new.Goals as goal

pub invariant_of-result : goal.invariant_of-result
invariant_of-result g c = none_ascends _ c.new.ensures.items
