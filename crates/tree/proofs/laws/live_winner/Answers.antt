use Rattle.tree.proofs.Leaves.{live_leaf, winner_mark}
use Rattle.tree.proofs.laws.live_winner.Goals as goal

pub returns-clause-leaf : goal.returns-clause-leaf
returns-clause-leaf c = live_leaf

pub returns-clause-winner : goal.returns-clause-winner
returns-clause-winner c = winner_mark
