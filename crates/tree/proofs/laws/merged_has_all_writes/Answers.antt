use Rattle.tree.proofs.Convergence.{none_refused, merged_known, merged_parents}
use Rattle.tree.proofs.laws.merged_has_all_writes.Goals as goal

pub returns-clause-fit : goal.returns-clause-fit
returns-clause-fit c = none_refused

pub returns-clause-known : goal.returns-clause-known
returns-clause-known c = merged_known

pub returns-clause-parents : goal.returns-clause-parents
returns-clause-parents c = merged_parents
