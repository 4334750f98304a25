use Rattle.index.proofs.Alike.{alike}
use Rattle.index.proofs.laws.the_same_is_said.Goals as goal

pub returns : goal.returns
returns c declares others sees seen trees h = alike declares sees trees h others seen
