-- Each rule is that of its design document.
use Rattle.policy.proofs.RuleEntries.{get-rules_of}
use Rattle.policy.proofs.laws.rules_are_of_the_documents.Goals as goal

pub returns : goal.returns
returns c = λ documents once id. get-rules_of documents once id
