use Rattle.replication.proofs.Sayings.{shown_is_said}
use Rattle.replication.proofs.convergence.shown_documents_say_what_is_held.Goals as goal

pub returns : goal.returns
returns c = shown_is_said
