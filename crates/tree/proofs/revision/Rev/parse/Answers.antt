-- Reading is exact.
use Rattle.tree.proofs.RevisionText.{read_exactly}
use Rattle.tree.proofs.revision.Rev.parse.Goals as goal

pub returns-clause-exact : goal.returns-clause-exact
returns-clause-exact c = rw c.read.ensures (read_exactly c.args.text.now)
