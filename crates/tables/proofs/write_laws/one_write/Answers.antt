use Rattle.tables.proofs.DocumentWrite.{one_write-store, one_write-contents, one_write-row, one_write-database}
use Rattle.tables.proofs.write_laws.one_write.Goals as goal

pub returns-clause-store : goal.returns-clause-store
returns-clause-store c = one_write-store

pub returns-clause-contents : goal.returns-clause-contents
returns-clause-contents c = one_write-contents

pub returns-clause-row : goal.returns-clause-row
returns-clause-row c = one_write-row

pub returns-clause-database : goal.returns-clause-database
returns-clause-database c = one_write-database
