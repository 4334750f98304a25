use Rattle.api.proofs.Apart.{routes_apart}
use Rattle.api.proofs.laws.routes_are_apart.Goals as goal

pub returns : goal.returns
returns c = routes_apart
