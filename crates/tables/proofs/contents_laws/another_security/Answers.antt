use Rattle.tables.proofs.Secured.{secured_store}
use Rattle.tables.proofs.contents_laws.another_security.Goals as goal

pub returns : goal.returns
returns c = secured_store
