-- The nodes after a revision came in are those of the content after it.
use Rattle.std.proofs.Common.{[], ◌∷◌, ap, ◌∙◌}
use Rattle.tree.specs.History.{with_new}
use Rattle.tree.proofs.Kept.{with_nodes}
use Rattle.tree.proofs.history.History.put_entry.Goals as goal

pub returns-clause-ok : goal.returns-clause-ok
returns-clause-ok c =
    with_nodes c.self.inside.nodes.entries c.put_new.new.nodes.entries ((c.args.rev, c.args.entry) ∷ []) c.self.invariant.in_order c.put_new.ensures.kept.in_order c.in_ok-put_new.ensures.ok
    ∙ ap (λ h. with_new h c.args.rev c.args.entry) c.self.view_is
