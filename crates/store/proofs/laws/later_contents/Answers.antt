use Rattle.store.proofs.Laters.{later_itself, later_still, later_by_one, later_by_all}
use Rattle.store.proofs.laws.later_contents.Goals as goal

pub returns : goal.returns
returns c = record { itself = later_itself; still = later_still; by_one = later_by_one; by_all = later_by_all }
