use Rattle.replication.proofs.Starting.{arranging}
use Rattle.replication.proofs.completion.calls_arrange.Goals as goal

pub returns-clause-stores : goal.returns-clause-stores
returns-clause-stores g c = arranging

pub returns-clause-databases : goal.returns-clause-databases
returns-clause-databases g c = arranging
