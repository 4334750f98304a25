use Rattle.std.proofs.Common.{rules}
use Rattle.std.proofs.lemmas.Fn.{always_returns_same}
use Rattle.name_map.specs.Places.{entry_order}
use Rattle.name_map.proofs.Searches.{searched}
use Rattle.name_map.proofs.map.NameMap.find.Goals as goal

pub returns-clause-stands : goal.returns-clause-stands
returns-clause-stands g c =
    let facts = c.binary_search_by.ensures in
    let by_name = facts.position (entry_order c.args.name.now) (always_returns_same _ _ _ (λ a r f called. search rules)) in
    rw (← c.self.view_is, ← c.deref.ensures.value) (searched c.args.name.now _ (rw c.deref.ensures.value c.self.invariant) _ facts.bound by_name).0

pub returns-clause-fits : goal.returns-clause-fits
returns-clause-fits g c =
    let facts = c.binary_search_by.ensures in
    let by_name = facts.position (entry_order c.args.name.now) (always_returns_same _ _ _ (λ a r f called. search rules)) in
    rw (← c.self.view_is, ← c.deref.ensures.value) (searched c.args.name.now _ (rw c.deref.ensures.value c.self.invariant) _ facts.bound by_name).1
