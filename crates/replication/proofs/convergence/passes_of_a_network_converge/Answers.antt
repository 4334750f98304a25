use Rattle.replication.proofs.Plays.{both_stay, networks_agree, networks_converge}
use Rattle.replication.proofs.Sparings.{arrange, sparing}
use Rattle.replication.proofs.convergence.passes_of_a_network_converge.Goals as goal

pub returns : goal.returns
returns c = record { converge = networks_converge; agree = networks_agree; stay = both_stay; sparing = sparing; arrangements = arrange }
