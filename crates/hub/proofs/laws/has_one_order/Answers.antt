use Rattle.hub.proofs.Arrivals.{order_one}
use Rattle.hub.proofs.laws.has_one_order.Goals as goal

pub returns : goal.returns
returns c = order_one
