use Rattle.index.proofs.Alike.{there, whole}
use Rattle.index.proofs.laws.entries_of_indexes.Goals as goal

pub returns-clause-there : goal.returns-clause-there
returns-clause-there c = there

pub returns-clause-whole : goal.returns-clause-whole
returns-clause-whole c = whole
