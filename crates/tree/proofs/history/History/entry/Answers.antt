-- A look-up in the nodes is one in the content.
use Rattle.std.proofs.Common.{sym, ap, ◌∙◌}
use Rattle.std.specs.FinMap.{find, get-entries}
use Rattle.tree.specs.Revision.{revision_cmp}
use Rattle.tree.proofs.Insertions.{lookup-find}
use Rattle.tree.proofs.history.History.entry.Goals as goal

pub returns : goal.returns
returns c =
    c.get.ensures.value ∙ lookup-find c.args.rev.now c.nodes.result.now.entries ∙ ap (find revision_cmp c.args.rev.now) c.nodes.ensures
    ∙ sym (get-entries c.args.self.now c.args.rev.now)
