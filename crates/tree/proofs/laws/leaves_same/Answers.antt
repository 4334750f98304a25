use Rattle.tree.proofs.Leaves.{leaves_same, winner_same}
use Rattle.tree.proofs.laws.leaves_same.Goals as goal

pub returns-clause-leaves : goal.returns-clause-leaves
returns-clause-leaves c = leaves_same

pub returns-clause-winner : goal.returns-clause-winner
returns-clause-winner c = winner_same
