use Rattle.store.proofs.Contents.{writings_in-append}
use Rattle.store.proofs.laws.writes_in_a_row.Goals as goal

pub returns : goal.returns
returns c = writings_in-append
