use Rattle.hub.proofs.Rests.{open_without}
use Rattle.hub.proofs.connections.Connections.close.Goals as goal

pub invariant_of-self : goal.invariant_of-self
invariant_of-self c = rw c.remove_cutter.ensures.entries (open_without c.self.inside.cutters.entries c.args.conn c.self.invariant)
