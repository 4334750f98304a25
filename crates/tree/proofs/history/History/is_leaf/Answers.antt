-- The leaves that are kept are those of the content.
use Rattle.std.proofs.Common.{◌∙◌, ap}
use Rattle.tree.specs.History.{is_leaf}
use Rattle.tree.proofs.KeptLeaves.{kept_leaf}
use Rattle.tree.proofs.history.History.is_leaf.Goals as goal

pub returns : goal.returns
returns c =
    c.contains.ensures ∙ kept_leaf c.self.inside.nodes.entries c.self.inside.leaves c.self.inside.awaited.keys c.args.rev.now c.self.invariant ∙ ap (λ h. is_leaf h c.args.rev.now) c.self.view_is
