use Rattle.hub.specs.Answering.{StoreSteps}
use Rattle.node.specs.Runs.{Steps}
use Rattle.world.specs.Service.{alike}
use Rattle.world.proofs.Events.{plays_then}
use Rattle.world.proofs.laws.plays_are_chained.Goals as goal

pub returns-clause-stores : goal.returns-clause-stores
returns-clause-stores g c = plays_then (alike (StoreSteps g.S.Store))

pub returns-clause-databases : goal.returns-clause-databases
returns-clause-databases g c = plays_then (alike Steps)
