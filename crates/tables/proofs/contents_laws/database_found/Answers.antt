use Rattle.tables.proofs.Lookups.{database_found, one_database}
use Rattle.tables.proofs.contents_laws.database_found.Goals as goal

pub returns : goal.returns
returns c = record { found = database_found; one = one_database }
