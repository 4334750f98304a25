use Rattle.hub.specs.Answering.{StoreSteps}
use Rattle.node.specs.Runs.{Steps}
use Rattle.replication.proofs.Outcomes.{sights_tell}
use Rattle.replication.proofs.completion.sights_tell_service.Goals as goal

pub returns-clause-stores : goal.returns-clause-stores
returns-clause-stores g c = sights_tell (StoreSteps g.S.Store)

pub returns-clause-databases : goal.returns-clause-databases
returns-clause-databases g c = sights_tell Steps
