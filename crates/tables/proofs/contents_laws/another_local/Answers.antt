use Rattle.tables.proofs.LocalChanges.{written_store}
use Rattle.tables.proofs.contents_laws.another_local.Goals as goal

pub returns : goal.returns
returns c = written_store
