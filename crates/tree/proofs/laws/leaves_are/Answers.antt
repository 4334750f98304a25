use Rattle.tree.proofs.Leaves.{leaves_are, best_first, better_not_both, better_not_itself}
use Rattle.tree.proofs.laws.leaves_are.Goals as goal

pub returns-clause-members : goal.returns-clause-members
returns-clause-members c = leaves_are

pub returns-clause-order : goal.returns-clause-order
returns-clause-order c = best_first

pub returns-clause-strict : goal.returns-clause-strict
returns-clause-strict c = better_not_both

pub returns-clause-once : goal.returns-clause-once
returns-clause-once c = better_not_itself
