use Rattle.transactions.proofs.IndexRests.{remaining, remaining_indexed, removed_indexed}
use Rattle.transactions.proofs.laws.index_rows_of_a_removal.Goals as goal

pub returns-clause-cleared : goal.returns-clause-cleared
returns-clause-cleared c db a b is h was = remaining_indexed db a b (remaining db a b is h) was

pub returns-clause-dropped : goal.returns-clause-dropped
returns-clause-dropped c db a b d is h dropped = removed_indexed db a b d (remaining db a b is h) dropped
