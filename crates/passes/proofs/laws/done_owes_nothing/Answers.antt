use Rattle.passes.proofs.Rounds.{owes_nothing}
use Rattle.passes.proofs.laws.done_owes_nothing.Goals as goal

pub returns : goal.returns
returns c = owes_nothing
