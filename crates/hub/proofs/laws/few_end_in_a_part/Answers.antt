use Rattle.hub.proofs.PartRequests.{few_end}
use Rattle.hub.proofs.laws.few_end_in_a_part.Goals as goal

pub returns : goal.returns
returns c = few_end
