use Rattle.replication.proofs.Leafless.{done_owe_no_leaf}
use Rattle.replication.proofs.convergence.done_passes_owe_no_leaf.Goals as goal

pub returns : goal.returns
returns c = done_owe_no_leaf
