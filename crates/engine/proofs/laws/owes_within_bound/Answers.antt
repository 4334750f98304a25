use Rattle.engine.proofs.Bounds.{owes_all_bounded}
use Rattle.engine.proofs.laws.owes_within_bound.Goals as goal

pub returns : goal.returns
returns g c = owes_all_bounded g.S.Store
