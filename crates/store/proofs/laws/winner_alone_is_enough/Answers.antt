use Rattle.store.proofs.Winnings.{body_alone, queried_alone}
use Rattle.store.proofs.laws.winner_alone_is_enough.Goals as goal

pub returns-clause-queried : goal.returns-clause-queried
returns-clause-queried c = queried_alone

pub returns-clause-body : goal.returns-clause-body
returns-clause-body c = body_alone
