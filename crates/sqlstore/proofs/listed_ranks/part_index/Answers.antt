use Rattle.sqlstore.proofs.Common.{Global, Option, Vec, subst}
use Rattle.sqlstore.specs.declared.index_ranks.IndexRanks.{IndexRanks}
use Rattle.sqlstore.specs.inner.Keys.{AreKnownRanks}
use Rattle.sqlstore.proofs.listed_ranks.part_index.Goals as goal

pub returns-clause-rest : goal.returns-clause-rest
returns-clause-rest c trees db are = c.take_index-found.ensures.rest trees db (subst (λ (o : Option (Vec IndexRanks Global)). AreKnownRanks trees db o) c.in-Some.is are)
