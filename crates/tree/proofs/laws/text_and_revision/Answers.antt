use Rattle.tree.proofs.RevisionText.{read_of_text, read_gives}
use Rattle.tree.proofs.laws.text_and_revision.Goals as goal

pub returns-clause-read : goal.returns-clause-read
returns-clause-read c = read_of_text

pub returns-clause-written : goal.returns-clause-written
returns-clause-written c = read_gives
