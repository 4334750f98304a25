use Rattle.replication.proofs.CaughtUp as caught
use Rattle.replication.proofs.convergence.a_quiet_network_agrees.Goals as goal

pub returns : goal.returns
returns c = record { networks = caught.networks_agree; rings = caught.rings_agree; counts = caught.one_pass }
