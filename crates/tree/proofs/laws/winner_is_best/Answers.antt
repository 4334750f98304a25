use Rattle.tree.proofs.Leaves.{winner_is_best}
use Rattle.tree.proofs.laws.winner_is_best.Goals as goal

pub returns : goal.returns
returns c = winner_is_best
