-- A parent that is not known, and one that is.
use Rattle.std.proofs.Common.{sym, ap, ◌∙◌}
use Rattle.std.specs.Prelude.{is_some}
use Rattle.tree.proofs.Between.{awaits_known, awaits_new}
use Rattle.tree.proofs.Insertions.{absent, lookup-find}
use Rattle.tree.proofs.nodes.await_parent.Goals as goal

pub returns-in_ok-insert-clause-ok : goal.returns-in_ok-insert-clause-ok
returns-in_ok-insert-clause-ok c =
    awaits_new c.args.nodes.now.entries c.args.awaited.now.keys c.insert.new.self.keys c.in-Some.rev c.args.parent c.in-Some.is
    (absent c.in-Some.rev c.args.nodes.now.entries _ c.contains_key.ensures c.if-not-contains_key.true) c.in_ok-insert.ensures.updates.0

pub returns-else-not-contains_key-clause-ok : goal.returns-else-not-contains_key-clause-ok
returns-else-not-contains_key-clause-ok c =
    awaits_known c.args.nodes.now.entries c.args.awaited.now.keys c.in-Some.rev c.args.parent c.in-Some.is
    (sym (ap is_some (lookup-find c.in-Some.rev c.args.nodes.now.entries)) ∙ sym c.contains_key.ensures ∙ c.if-not-contains_key.false)
