use Rattle.replication.proofs.Meeting as meeting
use Rattle.replication.proofs.convergence.leaves_meet.Goals as goal

pub returns : goal.returns
returns c = meeting.leaves_meet
