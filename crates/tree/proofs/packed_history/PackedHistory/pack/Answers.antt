-- The rows of a history make it.
use Rattle.std.proofs.Common.{ap, ◌∙◌}
use Rattle.std.specs.FinMap.{empty}
use Rattle.tree.specs.History.{with_entries}
use Rattle.tree.proofs.Contents.{entries_make}
use Rattle.tree.proofs.packed_history.PackedHistory.pack.Goals as goal

pub returns : goal.returns
returns c = ap (with_entries empty) c.in_ok-into_rows.ensures ∙ entries_make c.args.history
