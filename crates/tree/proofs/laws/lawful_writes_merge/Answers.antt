use Rattle.tree.proofs.Convergence.{lawful_fits, merged_lawful}
use Rattle.tree.proofs.laws.lawful_writes_merge.Goals as goal

pub returns-clause-fit : goal.returns-clause-fit
returns-clause-fit c = lawful_fits

pub returns-clause-content : goal.returns-clause-content
returns-clause-content c = merged_lawful
