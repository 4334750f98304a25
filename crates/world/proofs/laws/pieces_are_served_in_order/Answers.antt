use Rattle.node.specs.Runs.{Steps}
use Rattle.world.specs.Service.{alike}
use Rattle.world.proofs.Order.{pieces_in_order}
use Rattle.world.proofs.laws.pieces_are_served_in_order.Goals as goal

pub returns : goal.returns
returns c = pieces_in_order (alike Steps)
