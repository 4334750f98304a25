use Rattle.tables.proofs.Lemmas.{known_are_revisions}
use Rattle.tables.proofs.laws.revisions_of_a_store.Goals as goal

pub returns : goal.returns
returns c = known_are_revisions
