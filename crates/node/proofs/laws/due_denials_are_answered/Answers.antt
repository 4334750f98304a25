use Rattle.node.proofs.Leave.{bulk_edit_denied, bulk_replication_denied, denied_answered}
use Rattle.node.proofs.laws.due_denials_are_answered.Goals as goal

pub returns-clause-request : goal.returns-clause-request
returns-clause-request c = denied_answered

pub returns-clause-edit : goal.returns-clause-edit
returns-clause-edit c = bulk_edit_denied

pub returns-clause-replicated : goal.returns-clause-replicated
returns-clause-replicated c = bulk_replication_denied
