use Rattle.tables.proofs.Removed.{removed_store}
use Rattle.tables.proofs.contents_laws.fewer_databases.Goals as goal

pub returns : goal.returns
returns c = removed_store
