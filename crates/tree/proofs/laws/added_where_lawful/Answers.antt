use Rattle.tree.proofs.Continued.{added_goes_on, goes_on_added}
use Rattle.tree.proofs.laws.added_where_lawful.Goals as goal

pub returns : goal.returns
returns c = λ ws w lawful. (added_goes_on ws w lawful, goes_on_added ws w)
