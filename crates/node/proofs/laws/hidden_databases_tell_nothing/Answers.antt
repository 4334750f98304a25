use Rattle.node.proofs.Hiding.{answer_hidden, answer_stays, answer_struck}
use Rattle.node.proofs.laws.hidden_databases_tell_nothing.Goals as goal

pub returns-clause-answers : goal.returns-clause-answers
returns-clause-answers c = answer_hidden

pub returns-clause-stays : goal.returns-clause-stays
returns-clause-stays c = answer_stays

pub returns-clause-struck : goal.returns-clause-struck
returns-clause-struck c = answer_struck
