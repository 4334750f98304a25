use Rattle.std.proofs.Common.{◌≡◌, ◌||◌, [], ap₂, rules}
use Rattle.selector.specs.Lookup.{some_group_decides}
use Rattle.selector.proofs.lookup.Drafts.new.Goals as goal

pub returns : goal.returns
returns c = λ current.
    let empty : c.new-groups.result.items ≡ [] = search rules in
    ap₂ (λ b groups. b || some_group_decides groups current) (c.new-open.ensures.none current) empty
