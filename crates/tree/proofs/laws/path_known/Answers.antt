use Rattle.tree.proofs.LawfulContents.{path_known}
use Rattle.tree.proofs.laws.path_known.Goals as goal

pub returns : goal.returns
returns c = λ ws w p r lawful. path_known ws w lawful p r
