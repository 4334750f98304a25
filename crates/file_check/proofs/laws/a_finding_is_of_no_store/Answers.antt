use Rattle.file_check.proofs.Stores.{unlaid_where_found}
use Rattle.file_check.proofs.laws.a_finding_is_of_no_store.Goals as goal

pub returns : goal.returns
returns c = unlaid_where_found
