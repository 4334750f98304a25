use Rattle.file_check.proofs.IndexRows.{index_rows, indexed}
use Rattle.file_check.proofs.index_laws.rows_of_indexes.Goals as goal

pub returns-clause-indexed : goal.returns-clause-indexed
returns-clause-indexed c db fit rows = indexed db.trees fit.store.laid fit.cells.decls fit.cells.entries rows

pub returns-clause-rows : goal.returns-clause-rows
returns-clause-rows c trees is = index_rows trees is
