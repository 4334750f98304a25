-- The first rule that is broken is named.
use Rattle.policy.proofs.FirstBroken.{named_first, none_broken}
use Rattle.policy.proofs.laws.first_broken_rule_is_named.Goals as goal

pub returns-clause-named : goal.returns-clause-named
returns-clause-named c = λ rules argument id e. named_first rules argument id e

pub returns-clause-none : goal.returns-clause-none
returns-clause-none c = λ rules argument e id rule k. none_broken rules argument e id rule k
