use Rattle.replication.proofs.Groups.{groups_agree}
use Rattle.replication.proofs.Sparings.{arrange_for_groups, sparing_groups}
use Rattle.replication.proofs.convergence.groups_keep_agreement.Goals as goal

pub returns : goal.returns
returns c = record { agree = groups_agree; sparing = sparing_groups; arrangements = arrange_for_groups }
