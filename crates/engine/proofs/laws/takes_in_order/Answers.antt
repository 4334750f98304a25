use Rattle.engine.proofs.Takings.{takes_all}
use Rattle.engine.proofs.laws.takes_in_order.Goals as goal

pub returns : goal.returns
returns g c = takes_all g.S.Store
