use Rattle.tables.proofs.Lemmas.{acceptable_in_turn, none_written, one_more_written}
use Rattle.tables.proofs.write_laws.more_writes.Goals as goal

pub returns-clause-none : goal.returns-clause-none
returns-clause-none c = none_written

pub returns-clause-one_more : goal.returns-clause-one_more
returns-clause-one_more c = one_more_written

pub returns-clause-in_turn : goal.returns-clause-in_turn
returns-clause-in_turn c = acceptable_in_turn
