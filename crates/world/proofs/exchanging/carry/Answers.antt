use Rattle.world.proofs.Onward.{nodes_themselves}
use Rattle.world.proofs.exchanging.carry.Goals as goal

pub returns-in-RequestLost-clause-onward : goal.returns-in-RequestLost-clause-onward
returns-in-RequestLost-clause-onward g c = nodes_themselves g.S.Store c.args.nodes.now.items
