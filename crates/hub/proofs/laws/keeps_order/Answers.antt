use Rattle.hub.proofs.Arrivals.{order_kept}
use Rattle.hub.proofs.laws.keeps_order.Goals as goal

pub returns : goal.returns
returns c = order_kept
