use Rattle.isolation.proofs.Played.{nodes_run, plays_are_turns}
use Rattle.isolation.proofs.laws.plays_are_runs.Goals as goal

pub returns-clause-turns : goal.returns-clause-turns
returns-clause-turns c = plays_are_turns

pub returns-clause-runs : goal.returns-clause-runs
returns-clause-runs c = nodes_run
