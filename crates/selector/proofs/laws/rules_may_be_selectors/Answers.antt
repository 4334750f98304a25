-- What has no fault as a selector has none as a rule's.
use Rattle.selector.proofs.Faultless.{rule_selector}
use Rattle.selector.proofs.laws.rules_may_be_selectors.Goals as goal

pub returns : goal.returns
returns c = λ selector lawful. rule_selector selector 1 lawful
