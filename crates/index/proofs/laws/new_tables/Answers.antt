use Rattle.index.proofs.NewIndexes.{new_indexed, new_laid}
use Rattle.index.proofs.laws.new_tables.Goals as goal

pub returns-clause-laid : goal.returns-clause-laid
returns-clause-laid c = new_laid

pub returns-clause-indexed : goal.returns-clause-indexed
returns-clause-indexed c = new_indexed
