-- Changes of tables that are made one after the other.
-- This server's own: the words of a change are those of `tables`.
use Rattle.std.specs.Prelude.{ℕ, ℤ, List, filter, not}
use Rattle.sqlite.specs.Effect.{Database}
use Rattle.tables.specs.Rows.{has_number, is_row_of_database, is_row_of_document, local_cells, with_cells}
use Rattle.tables.specs.Schema.{dbs_tree, docs_tree, locals_tree, revs_tree}
use Rattle.tables.specs.Steps.{Changes}

-- the local document of this id is taken out, and another put in
pub record Replaces (db : ℤ) (id : List ℕ) (number : ℕ) (body : List ℕ) (old new : Database) : Type 0 where
  pub mid : Database
  pub out : Changes locals_tree (filter (λ r. not (is_row_of_document db id r)) (old.trees locals_tree)) old mid
  pub put : Changes locals_tree (with_cells (mid.trees locals_tree) (local_cells db id number body)) mid new

-- the documents of a database, its revisions and its local documents are taken out, and its own row
pub record Clears (db : ℤ) (old new : Database) : Type 0 where
  pub undocumented : Database
  pub unwritten : Database
  pub bare : Database
  pub documents : Changes docs_tree (filter (λ r. not (is_row_of_database db r)) (old.trees docs_tree)) old undocumented
  pub revisions : Changes revs_tree (filter (λ r. not (is_row_of_database db r)) (undocumented.trees revs_tree)) undocumented unwritten
  pub locals : Changes locals_tree (filter (λ r. not (is_row_of_database db r)) (unwritten.trees locals_tree)) unwritten bare
  pub row : Changes dbs_tree (filter (λ r. not (has_number db r)) (bare.trees dbs_tree)) bare new
