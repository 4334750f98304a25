use Rattle.file_check.proofs.IndexRows.{not_indexed}
use Rattle.file_check.proofs.index_laws.a_finding_is_of_unsound_indexes.Goals as goal

pub returns : goal.returns
returns c trees f is = not_indexed trees f is
