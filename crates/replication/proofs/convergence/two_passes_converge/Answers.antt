use Rattle.replication.proofs.Crossings.{keep_pair, two_converge}
use Rattle.replication.proofs.convergence.two_passes_converge.Goals as goal

pub returns : goal.returns
returns c = record { converge = two_converge; agree = keep_pair }
