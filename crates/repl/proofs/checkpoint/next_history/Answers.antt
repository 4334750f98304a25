use Rattle.repl.proofs.SessionLemmas.{cut_sessions}
use Rattle.repl.proofs.checkpoint.next_history.Goals as goal

pub returns : goal.returns
returns c = rw c.truncate.ensures.items (cut_sessions _ _ _ c.in_ok-history.ensures)
