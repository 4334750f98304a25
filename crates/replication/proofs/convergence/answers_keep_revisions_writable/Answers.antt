use Rattle.replication.proofs.Replicables.{courses_keep_writable, keep_writable, runs_keep_writable}
use Rattle.replication.proofs.convergence.answers_keep_revisions_writable.Goals as goal

pub returns : goal.returns
returns c = record { steps = keep_writable; runs = runs_keep_writable; courses = courses_keep_writable }
