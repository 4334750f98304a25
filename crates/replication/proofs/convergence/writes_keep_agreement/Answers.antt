use Rattle.replication.proofs.Replicas.{keep_agreement, new_agree, third_agrees}
use Rattle.replication.proofs.convergence.writes_keep_agreement.Goals as goal

pub returns : goal.returns
returns c = record { both = keep_agreement; third = third_agrees; fresh = new_agree }
