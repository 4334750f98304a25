use Rattle.sqlite_catalog.specs.Listing.{IsSound}
use Rattle.std.proofs.Common.{subst}
use Rattle.file_check.proofs.IndexCells.{index_cells}
use Rattle.file_check.proofs.index_laws.cells_of_indexes.Goals as goal

pub returns : goal.returns
returns c db has sound decls entries = index_cells db has (subst (λ s. IsSound s db.trees) has sound) decls entries
