use Rattle.tables.proofs.Laid.{holds}
use Rattle.tables.proofs.laws.new_tables.Goals as goal

pub returns-clause-store : goal.returns-clause-store
returns-clause-store c = holds
