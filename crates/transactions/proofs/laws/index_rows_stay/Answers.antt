use Rattle.transactions.proofs.IndexRests.{database_indexed, replaced_indexed}
use Rattle.transactions.proofs.laws.index_rows_stay.Goals as goal

pub returns-clause-databases : goal.returns-clause-databases
returns-clause-databases c = database_indexed

pub returns-clause-locals : goal.returns-clause-locals
returns-clause-locals c = replaced_indexed
