use Rattle.isolation.proofs.Isolations.{isolated_alike, isolated_caller, isolated_struck}
use Rattle.isolation.proofs.Played.{isolated_in_plays}
use Rattle.isolation.proofs.laws.isolation.Goals as goal

pub returns-clause-struck : goal.returns-clause-struck
returns-clause-struck c = isolated_struck

pub returns-clause-caller : goal.returns-clause-caller
returns-clause-caller c = isolated_caller

pub returns-clause-alike : goal.returns-clause-alike
returns-clause-alike c = isolated_alike

pub returns-clause-plays : goal.returns-clause-plays
returns-clause-plays c = isolated_in_plays
