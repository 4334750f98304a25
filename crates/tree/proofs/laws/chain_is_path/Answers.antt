use Rattle.tree.proofs.LawfulContents.{chain_is_path}
use Rattle.tree.proofs.laws.chain_is_path.Goals as goal

pub returns : goal.returns
returns c = λ ws r rest lawful. chain_is_path ws lawful r rest
