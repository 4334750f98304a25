use Rattle.store.proofs.Logs.{one_more_write_logged}
use Rattle.store.proofs.laws.content_of_one_more_write.Goals as goal

pub returns : goal.returns
returns c = one_more_write_logged
