use Rattle.std.proofs.Common.{List, ◌||◌, ap, ◌∙◌}
use Rattle.selector.specs.Lookup.{some_group_decides}
use Rattle.selector.specs.declared.lookup.Group.{Group}
use Rattle.selector.proofs.Places.{group_more}
use Rattle.selector.proofs.lookup.Drafts.finish.Goals as goal

pub returns : goal.returns
returns c = λ current.
    ap (λ (gs : List Group). some_group_decides gs current) c.in_ok-push.ensures.items
    ∙ group_more c.args.self.groups.items c.finish.result current
    ∙ ap (λ b. b || some_group_decides c.args.self.groups.items current) (c.finish.ensures current)
