use Rattle.file_check.proofs.Laid.{numbered_where_shaped}
use Rattle.file_check.proofs.laws.numbers_of_a_table.Goals as goal

pub returns : goal.returns
returns c = numbered_where_shaped
