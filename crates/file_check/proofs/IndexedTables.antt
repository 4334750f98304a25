-- What is known of the tables that the check of indexes looks at, and of their rows.
use Rattle.index.proofs.Common.{AllByRecursion, AreNumbered, Int, List, Row, Trees, all_weaker, ap, column, decls_tree, entries_tree, number_of, rowid, schema, ◌∙◌, ◌≡◌}
use Rattle.index.proofs.EntryStatements.{numbered_entries}
use Rattle.sqlite.specs.Effect.{Database}
use Rattle.file_check.specs.Indexes.{AreDeclarationCells, HasDeclarationCells}
use Rattle.file_check.specs.inner.IndexRows.{IsKnownRow, IsNextRow, IsReady, indexed_tree, shown_next}
use Rattle.file_check.specs.declared.indexes.indexed.Indexed.{Indexed}
use Rattle.file_check.specs.declared.indexes.indexed.Indexed.TheVariants.{Declarations, Documents, Entries}

-- rows with the cells of declarations have numbers that rise
numbered_cells : (rows : List Row) → AreDeclarationCells rows → AreNumbered rows
numbered_cells rows h = record { numbers = all_weaker HasDeclarationCells (λ r. rowid r ≡ Int (number_of r)) (λ r k. ap rowid k) rows h.each; rising = h.rising }

-- the schema is this server's
pub schema_ready : (of : Indexed) (d : Database) → IsReady of d → d.schema ≡ schema
schema_ready Declarations d fit = fit.store.schema_is
schema_ready Documents d fit = fit.store.schema_is
schema_ready Entries d fit = fit.store.schema_is

-- the numbers of a table's rows rise
pub numbered_rows : (of : Indexed) (d : Database) → IsReady of d → AreNumbered (d.trees (indexed_tree of))
numbered_rows Declarations d fit = numbered_cells (d.trees decls_tree) fit.cells.decls
numbered_rows Documents d fit = fit.store.laid.docs_numbered
numbered_rows Entries d fit = numbered_entries (d.trees entries_tree) fit.rows.entries

-- each of its rows is known so
pub known_rows : (of : Indexed) (d : Database) → IsReady of d → AllByRecursion (IsKnownRow of d.trees) (d.trees (indexed_tree of))
known_rows Declarations d fit = fit.cells.decls.each
known_rows Documents d fit = fit.store.laid.docs
known_rows Entries d fit = fit.rows.entries.each

-- the first cell that is shown of a row is its number
first_cell : (of : Indexed) (trees : Trees) (r : Row) → IsKnownRow of trees r → column (shown_next of r) 0 ≡ Int (number_of r)
first_cell Declarations trees r k = ap rowid k
first_cell Documents trees r k = ap rowid k.is
first_cell Entries trees r k = ap rowid k

pub number_shown : (of : Indexed) (s r : Row) (d : Database) → IsNextRow of s r d → column s 0 ≡ Int (number_of r)
number_shown of s r d fit = ap (λ x. column x 0) fit.shown_is ∙ first_cell of d.trees r fit.row
