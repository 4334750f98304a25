use Rattle.repl.proofs.StopLemmas.{stop_cause}
use Rattle.repl.proofs.laws.stops_have_causes.Goals as goal

pub returns : goal.returns
returns c = stop_cause
