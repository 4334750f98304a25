use Rattle.replication.proofs.Again.{that_keep, that_serve}
use Rattle.replication.proofs.completion.runs_are_told_by_their_requests.Goals as goal

pub returns-clause-keep : goal.returns-clause-keep
returns-clause-keep c = that_keep

pub returns-clause-serve : goal.returns-clause-serve
returns-clause-serve c = that_serve
