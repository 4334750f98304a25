-- No entry is no rule.
use Rattle.policy.proofs.RuleEntries.{none}
use Rattle.policy.proofs.update_rules.RuleSet.new.Goals as goal

pub returns : goal.returns
returns c = rw c.new.ensures.empty none
