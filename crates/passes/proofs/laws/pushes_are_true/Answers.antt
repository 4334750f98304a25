use Rattle.passes.proofs.Told.{true_push}
use Rattle.passes.proofs.laws.pushes_are_true.Goals as goal

pub returns : goal.returns
returns c = true_push
