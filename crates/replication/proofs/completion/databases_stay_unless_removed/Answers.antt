use Rattle.replication.proofs.Removals.{without_removals}
use Rattle.replication.proofs.completion.databases_stay_unless_removed.Goals as goal

pub returns : goal.returns
returns c = without_removals
