-- A node that comes in, or is taken out again.
use Rattle.std.proofs.Common.{◌∙◌}
use Rattle.tree.proofs.Insertions.{absent, node_back, node_new}
use Rattle.tree.proofs.nodes.put_node.Goals as goal

pub returns-then-is_followed-clause-ok : goal.returns-then-is_followed-clause-ok
returns-then-is_followed-clause-ok c =
    c.in_ok-insert.ensures.entries ∙ node_new c.args.nodes.now.entries c.args.rev c.args.entry (absent c.args.rev c.args.nodes.now.entries _ c.contains_key.ensures c.if-contains_key.false)

pub returns-in_default-clause-err : goal.returns-in_default-clause-err
returns-in_default-clause-err c = (
  c.remove.ensures.entries ∙ node_back _ c.args.nodes.now.entries c.args.rev c.args.entry (absent c.args.rev c.args.nodes.now.entries _ c.contains_key.ensures c.if-contains_key.false) c.in_ok-insert.ensures.entries,
  c.in_default.ensures.err,
)

pub returns-clause-ok : goal.returns-clause-ok
returns-clause-ok c =
    c.in_ok-insert.ensures.entries ∙ node_new c.args.nodes.now.entries c.args.rev c.args.entry (absent c.args.rev c.args.nodes.now.entries _ c.contains_key.ensures c.if-contains_key.false)
