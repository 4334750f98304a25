use Rattle.std.proofs.Common.{◌≡◌, drop, option_map}
use Rattle.couch_json.specs.View.{view}
use Rattle.selector.specs.Lookup.{some_group_decides}
use Rattle.selector.proofs.lookup.Lookup.decides.Given as goal

abbrev pub invariant-loop-group : goal.invariant-loop-group
invariant-loop-group l =
    some_group_decides l.self.groups.items (option_map (λ v. view v.now) l.current)
    ≡ some_group_decides (drop l.group-index l.group-items) (option_map (λ v. view v.now) l.current)
