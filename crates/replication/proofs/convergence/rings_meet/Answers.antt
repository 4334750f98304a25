use Rattle.replication.proofs.Ways as way
use Rattle.replication.proofs.convergence.rings_meet.Goals as goal

pub returns : goal.returns
returns c = record { ways = way.ways_meet; rings = way.rings_meet }
