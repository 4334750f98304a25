use Rattle.hub.specs.Answering.{StoreSteps}
use Rattle.node.specs.Runs.{Steps}
use Rattle.replication.proofs.Turned.{are_seen, go_by_turns}
use Rattle.replication.proofs.completion.passes_go_by_turns.Goals as goal

pub returns-clause-stores : goal.returns-clause-stores
returns-clause-stores g c = go_by_turns (StoreSteps g.S.Store)

pub returns-clause-databases : goal.returns-clause-databases
returns-clause-databases g c = go_by_turns Steps

pub returns-clause-seen : goal.returns-clause-seen
returns-clause-seen g c = are_seen (StoreSteps g.S.Store)

pub returns-clause-seen_of_databases : goal.returns-clause-seen_of_databases
returns-clause-seen_of_databases g c = are_seen Steps
