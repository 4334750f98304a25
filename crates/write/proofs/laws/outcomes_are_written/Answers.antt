use Rattle.write.proofs.Settlings.{after_all_is}
use Rattle.write.proofs.laws.outcomes_are_written.Goals as goal

pub returns : goal.returns
returns c = λ db os. after_all_is os db
