use Rattle.index.proofs.Alike.{same_rows}
use Rattle.index.proofs.laws.the_same_rows.Goals as goal

pub returns : goal.returns
returns c = same_rows
