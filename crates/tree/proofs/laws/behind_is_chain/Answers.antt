use Rattle.tree.proofs.Behind.{behind_chain, behind_unknown, stands_known}
use Rattle.tree.proofs.LawfulContents.{behind_path}
use Rattle.tree.proofs.laws.behind_is_chain.Goals as goal

pub returns-clause-known : goal.returns-clause-known
returns-clause-known c = behind_chain

pub returns-clause-unknown : goal.returns-clause-unknown
returns-clause-unknown c = behind_unknown

pub returns-clause-all_known : goal.returns-clause-all_known
returns-clause-all_known c = stands_known

pub returns-clause-path : goal.returns-clause-path
returns-clause-path c = λ ws p rest lawful. behind_path ws lawful p rest
