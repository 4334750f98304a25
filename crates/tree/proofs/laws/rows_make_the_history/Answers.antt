-- A history from its rows.
use Rattle.tree.proofs.Contents.{rows_make}
use Rattle.tree.proofs.laws.rows_make_the_history.Goals as goal

pub returns : goal.returns
returns c = rows_make
