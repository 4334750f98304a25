use Rattle.hub.specs.Answering.{StoreSteps}
use Rattle.node.specs.Runs.{Steps}
use Rattle.world.specs.Service.{alike}
use Rattle.replication.specs.Parted.{Serves}
use Rattle.replication.proofs.Adding.{opening, starting}
use Rattle.replication.proofs.completion.additions_change_nothing.Goals as goal

pub returns-clause-opening : goal.returns-clause-opening
returns-clause-opening g c = opening (alike (StoreSteps g.S.Store))

pub returns-clause-starting : goal.returns-clause-starting
returns-clause-starting g c = starting (alike (StoreSteps g.S.Store))

pub returns-clause-opening_of_databases : goal.returns-clause-opening_of_databases
returns-clause-opening_of_databases g c = opening (alike Steps)

pub returns-clause-starting_of_databases : goal.returns-clause-starting_of_databases
returns-clause-starting_of_databases g c = starting (alike Steps)

pub returns-clause-opening_where_served : goal.returns-clause-opening_where_served
returns-clause-opening_where_served g c = opening (Serves (StoreSteps g.S.Store))

pub returns-clause-starting_where_served : goal.returns-clause-starting_where_served
returns-clause-starting_where_served g c = starting (Serves (StoreSteps g.S.Store))
