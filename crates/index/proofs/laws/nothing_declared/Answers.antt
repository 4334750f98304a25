use Rattle.index.proofs.Alike.{unseen}
use Rattle.index.proofs.laws.nothing_declared.Goals as goal

pub returns : goal.returns
returns c declares sees seen db trees h = unseen declares sees trees h seen db
