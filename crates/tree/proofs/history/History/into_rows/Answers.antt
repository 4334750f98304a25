-- The nodes are the entries of the content that is made of them.
use Rattle.std.proofs.Common.{◌≡◌, sym, ap, ◌∙◌, rules}
use Rattle.std.specs.FinMap as map
use Rattle.tree.proofs.Kept.{nodes_of}
use Rattle.tree.proofs.history.History.into_rows.Goals as goal

pub returns : goal.returns
returns c =
    let all : c.in_ok-collect.field-0.items ≡ c.self.inside.nodes.entries = search rules in
    all ∙ sym (nodes_of c.self.inside.nodes.entries c.self.invariant.in_order) ∙ ap map.entries c.self.view_is
