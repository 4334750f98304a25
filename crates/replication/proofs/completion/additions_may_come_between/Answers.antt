use Rattle.replication.proofs.Adding.{opening_between, starting_between}
use Rattle.replication.proofs.completion.additions_may_come_between.Goals as goal

pub returns-clause-opening : goal.returns-clause-opening
returns-clause-opening c = opening_between

pub returns-clause-starting : goal.returns-clause-starting
returns-clause-starting c = starting_between
