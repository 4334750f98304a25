use Rattle.replication.proofs.Pushed.{push_appends}
use Rattle.replication.proofs.Quiet.{others_write_nothing}
use Rattle.replication.proofs.convergence.passes_write_what_they_push.Goals as goal

pub returns : goal.returns
returns c = record { push = push_appends; others = others_write_nothing }
