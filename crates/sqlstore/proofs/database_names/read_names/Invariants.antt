use Rattle.sqlstore.proofs.Common.{drop, map, name_shown, ◌++◌, ◌≡◌}
use Rattle.sqlstore.proofs.database_names.read_names.Given as goal

abbrev pub invariant-loop-row : goal.invariant-loop-row
invariant-loop-row l = l.names.items ++ map name_shown (drop l.row-index l.rows) ≡ map name_shown l.rows
