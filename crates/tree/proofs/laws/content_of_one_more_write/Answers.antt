use Rattle.tree.proofs.Contents.{one_more_write}
use Rattle.tree.proofs.laws.content_of_one_more_write.Goals as goal

pub returns : goal.returns
returns c = one_more_write
