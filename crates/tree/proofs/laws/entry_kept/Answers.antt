use Rattle.tree.proofs.Contents.{entry_kept}
use Rattle.tree.proofs.laws.entry_kept.Goals as goal

pub returns : goal.returns
returns c = entry_kept
