use Rattle.replication.proofs.Outcomes.{one_outcome, two_calls, two_calls_seen}
use Rattle.replication.proofs.completion.two_calls_are_one.Goals as goal

pub returns-clause-calls : goal.returns-clause-calls
returns-clause-calls c = two_calls

pub returns-clause-seen : goal.returns-clause-seen
returns-clause-seen c = two_calls_seen

pub returns-clause-outcome : goal.returns-clause-outcome
returns-clause-outcome c = one_outcome
