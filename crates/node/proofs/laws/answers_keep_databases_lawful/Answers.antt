use Rattle.node.proofs.Steps.{answer_lawful, run_lawful}
use Rattle.node.proofs.laws.answers_keep_databases_lawful.Goals as goal

pub returns-clause-answers : goal.returns-clause-answers
returns-clause-answers c = answer_lawful

pub returns-clause-runs : goal.returns-clause-runs
returns-clause-runs c = run_lawful
