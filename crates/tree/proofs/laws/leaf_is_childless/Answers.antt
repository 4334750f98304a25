use Rattle.tree.proofs.Leaves.{leaf_is_childless}
use Rattle.tree.proofs.laws.leaf_is_childless.Goals as goal

pub returns : goal.returns
returns c = leaf_is_childless
