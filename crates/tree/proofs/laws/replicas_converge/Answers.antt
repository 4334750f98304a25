use Rattle.tree.proofs.Convergence.{leaves_converge, winner_converges, leaves_held_same}
use Rattle.tree.proofs.laws.replicas_converge.Goals as goal

pub returns-clause-leaves : goal.returns-clause-leaves
returns-clause-leaves c = leaves_converge

pub returns-clause-winner : goal.returns-clause-winner
returns-clause-winner c = winner_converges

pub returns-clause-held : goal.returns-clause-held
returns-clause-held c = leaves_held_same
