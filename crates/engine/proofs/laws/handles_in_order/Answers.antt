use Rattle.engine.proofs.Handlings.{handles_all}
use Rattle.engine.proofs.laws.handles_in_order.Goals as goal

pub returns : goal.returns
returns g c = handles_all g.S.Store
