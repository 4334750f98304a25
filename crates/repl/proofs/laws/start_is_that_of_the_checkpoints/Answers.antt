use Rattle.repl.proofs.StartLemmas.{start_is}
use Rattle.repl.proofs.laws.start_is_that_of_the_checkpoints.Goals as goal

pub returns : goal.returns
returns c = start_is
