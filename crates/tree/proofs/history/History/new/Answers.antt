-- No node is the empty history.
use Rattle.tree.proofs.Kept.{from_sorted-nil}
use Rattle.tree.proofs.history.History.new.Goals as goal

pub returns : goal.returns
returns c = rw c.new.ensures.empty from_sorted-nil
