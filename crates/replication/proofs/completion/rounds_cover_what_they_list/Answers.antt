use Rattle.replication.proofs.Settlements.{rounds_in_courses}
use Rattle.replication.proofs.completion.rounds_cover_what_they_list.Goals as goal

pub returns : goal.returns
returns c = rounds_in_courses
