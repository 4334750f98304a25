use Rattle.hub.specs.Answering.{StoreSteps}
use Rattle.node.specs.Runs.{Steps}
use Rattle.replication.proofs.Turned.{caused_in_courses, read_in_courses, told_in_courses}
use Rattle.replication.proofs.completion.passes_report_what_was_told.Goals as goal

pub returns-clause-reports : goal.returns-clause-reports
returns-clause-reports g c = told_in_courses (StoreSteps g.S.Store)

pub returns-clause-starts : goal.returns-clause-starts
returns-clause-starts g c = read_in_courses (StoreSteps g.S.Store)

pub returns-clause-stops : goal.returns-clause-stops
returns-clause-stops g c = caused_in_courses (StoreSteps g.S.Store)

pub returns-clause-reports_of_databases : goal.returns-clause-reports_of_databases
returns-clause-reports_of_databases g c = told_in_courses Steps

pub returns-clause-starts_of_databases : goal.returns-clause-starts_of_databases
returns-clause-starts_of_databases g c = read_in_courses Steps

pub returns-clause-stops_of_databases : goal.returns-clause-stops_of_databases
returns-clause-stops_of_databases g c = caused_in_courses Steps
