use Rattle.tree.proofs.Contents.{entry_after_write}
use Rattle.tree.proofs.laws.path_entries.Goals as goal

pub returns : goal.returns
returns c = entry_after_write
