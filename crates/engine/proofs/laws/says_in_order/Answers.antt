use Rattle.engine.proofs.Handlings.{says_all}
use Rattle.engine.proofs.laws.says_in_order.Goals as goal

pub returns : goal.returns
returns g c = says_all g.S.Store
