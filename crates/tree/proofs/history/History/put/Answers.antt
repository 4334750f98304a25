-- The nodes after a write are those of the content after it.
use Rattle.std.proofs.Common.{Option, Some, sym, ap, ◌∙◌}
use Rattle.couch_json.specs.View.{view}
use Rattle.tree.specs.Revision.{Revision}
use Rattle.tree.specs.History.{HistoryContent, ancestors_of_parent, with_entries}
use Rattle.tree.specs.Nodes.{entries_before}
use Rattle.tree.specs.declared.entry.Held.{Held}
use Rattle.tree.proofs.Behind.{behind_known, with_followed}
use Rattle.tree.proofs.Kept.{with_nodes}
use Rattle.tree.proofs.history.History.put.Goals as goal

pub returns-clause-ok : goal.returns-clause-ok
returns-clause-ok c =
    let old = c.args.self.now in
    let path = c.args.path.now in
    let held = Some (record { deleted = c.args.deleted; body = view c.args.body.now }) in
    let entries = λ (d : Held). entries_before (Some d) path c.known_parent-parent.result in
    with_nodes c.self.inside.nodes.entries c.put_path.new.nodes.entries (entries c.in_ok-held.held) c.self.invariant.in_order c.put_path.ensures.kept.in_order c.in_ok-put_path.ensures.ok
    ∙ ap (λ (h : HistoryContent). with_entries h (entries c.in_ok-held.held)) c.self.view_is
    ∙ ap (λ (d : Held). with_entries old (entries d)) c.in_ok-held.ensures
    ∙ ap (λ (o : Option Revision). with_entries old (entries_before held path o)) c.known_parent-parent.ensures
    ∙ sym (with_followed old held path (ancestors_of_parent old c.args.parent) (behind_known old c.args.parent))
