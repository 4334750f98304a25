use Rattle.tables.proofs.Lemmas.{documents_by_id}
use Rattle.tables.proofs.listings.documents_by_id.Goals as goal

pub returns : goal.returns
returns c = documents_by_id
