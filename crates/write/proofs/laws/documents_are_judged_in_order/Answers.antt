use Rattle.write.proofs.Leave.{in_order}
use Rattle.write.proofs.laws.documents_are_judged_in_order.Goals as goal

pub returns : goal.returns
returns c = in_order
