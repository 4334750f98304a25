use Rattle.store.proofs.Logs.{content_logged, content_exists, one_content}
use Rattle.store.proofs.laws.content_of_a_log.Goals as goal

pub returns : goal.returns
returns c = record { exists = λ log. (content_logged log, content_exists log); only = one_content }
