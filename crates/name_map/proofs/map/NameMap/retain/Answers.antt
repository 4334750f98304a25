use Rattle.std.proofs.Common.{subst, sym}
use Rattle.name_map.proofs.Entries.{Ascends, kept_ascends}
use Rattle.name_map.proofs.map.NameMap.retain.Goals as goal

pub invariant_of-self : goal.invariant_of-self
invariant_of-self g c = let kept = c.retain.ensures.filtered in subst Ascends (sym kept.4) (kept_ascends kept.0 _ c.self.invariant)
