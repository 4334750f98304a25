use Rattle.tree.proofs.Leaves.{leaf_is_held}
use Rattle.tree.proofs.laws.leaf_is_held.Goals as goal

pub returns : goal.returns
returns c = λ ws r lawful. leaf_is_held ws lawful r
