use Rattle.replication.proofs.Opened.{opened_shown}
use Rattle.replication.proofs.convergence.opened_documents_are_shown.Goals as goal

pub returns : goal.returns
returns c = opened_shown
