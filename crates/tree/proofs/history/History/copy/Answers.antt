-- The nodes of a history make it.
use Rattle.std.proofs.Common.{ap, ◌∙◌}
use Rattle.std.specs.FinMap.{empty}
use Rattle.tree.specs.History.{HistoryContent, with_entries}
use Rattle.tree.proofs.Contents.{entries_make}
use Rattle.tree.proofs.history.History.copy.Goals as goal

pub loop-rev-init : goal.loop-rev-init
loop-rev-init c =
    ap (λ (h : HistoryContent). with_entries h c.into_iter-rev-iterator.result) c.new-copy.ensures
    ∙ ap (with_entries empty) (c.into_iter-rev-iterator.ensures.into_iter_gives ∙ c.iter-rev-items.ensures.rest ∙ c.nodes.ensures) ∙ entries_make c.args.self.now
