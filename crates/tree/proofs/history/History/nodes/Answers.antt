-- The nodes are the entries of the content that is made of them.
use Rattle.std.proofs.Common.{sym, ap, ◌∙◌}
use Rattle.std.specs.FinMap as map
use Rattle.tree.proofs.Kept.{nodes_of}
use Rattle.tree.proofs.history.History.nodes.Goals as goal

pub returns : goal.returns
returns c = sym (nodes_of c.self.inside.nodes.entries c.self.invariant.in_order) ∙ ap map.entries c.self.view_is
