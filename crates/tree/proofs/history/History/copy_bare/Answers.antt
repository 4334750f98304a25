-- The nodes of a history, without their bodies, make its outline.
use Rattle.std.proofs.Common.{ap, ◌∙◌}
use Rattle.std.specs.FinMap.{empty}
use Rattle.tree.specs.History.{HistoryContent, with_entries}
use Rattle.tree.specs.Outline.{all_bare}
use Rattle.tree.proofs.Outlines.{outline_made}
use Rattle.tree.proofs.history.History.copy_bare.Goals as goal

pub loop-rev-init : goal.loop-rev-init
loop-rev-init c =
    ap (λ (h : HistoryContent). with_entries h (all_bare c.into_iter-rev-iterator.result)) c.new-copy.ensures
    ∙ ap (λ es. with_entries empty (all_bare es)) (c.into_iter-rev-iterator.ensures.into_iter_gives ∙ c.iter-rev-items.ensures.rest ∙ c.nodes.ensures) ∙ outline_made c.args.self.now
