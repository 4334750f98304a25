use Rattle.tree.proofs.LawfulContents.{rooted}
use Rattle.tree.proofs.laws.whole.Goals as goal

pub returns : goal.returns
returns c = rooted
