use Rattle.tables.proofs.NewDatabases.{new_store}
use Rattle.tables.proofs.contents_laws.new_database.Goals as goal

pub returns : goal.returns
returns c = new_store
