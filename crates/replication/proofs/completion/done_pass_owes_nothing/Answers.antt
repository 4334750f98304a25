use Rattle.replication.proofs.Settlements.{done_has_listed, done_has_listed_in_courses, done_owes, done_owes_in_courses}
use Rattle.replication.proofs.completion.done_pass_owes_nothing.Goals as goal

pub returns-clause-owed : goal.returns-clause-owed
returns-clause-owed c = done_owes

pub returns-clause-listed : goal.returns-clause-listed
returns-clause-listed c = done_has_listed

pub returns-clause-owed_in_courses : goal.returns-clause-owed_in_courses
returns-clause-owed_in_courses c = done_owes_in_courses

pub returns-clause-listed_in_courses : goal.returns-clause-listed_in_courses
returns-clause-listed_in_courses c = done_has_listed_in_courses
