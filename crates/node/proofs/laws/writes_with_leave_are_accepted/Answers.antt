use Rattle.node.proofs.Leave.{bulk_edit_accepted, bulk_replication_accepted, deletion_accepted, put_accepted}
use Rattle.node.proofs.laws.writes_with_leave_are_accepted.Goals as goal

pub returns-clause-put : goal.returns-clause-put
returns-clause-put c = put_accepted

pub returns-clause-deletion : goal.returns-clause-deletion
returns-clause-deletion c = deletion_accepted

pub returns-clause-edit : goal.returns-clause-edit
returns-clause-edit c = bulk_edit_accepted

pub returns-clause-replicated : goal.returns-clause-replicated
returns-clause-replicated c = bulk_replication_accepted
