-- The tables of this server's schema in their order, and the indexes that SQLite makes for their keys.
-- This server's own, over `Schema` of `tables`; the names are those of SQLite's automatic indexes.
use Rattle.std.specs.Prelude.{true, ℕ, List, [], ◌∷◌, codes}
use Rattle.sqlite_value.specs.Keys.{plain}
use Rattle.sqlite_schema.specs.declared.schema.Index.{Index}
use Rattle.sqlite_schema.specs.declared.schema.Table.{Table}
use Rattle.tables.specs.Schema.{meta_table, dbs_table, docs_table, revs_table, locals_table, decls_table, entries_table}

-- the tables behind that of documents
abbrev pub later_tables : List Table
later_tables = revs_table ∷ locals_table ∷ decls_table ∷ entries_table ∷ []

-- all tables
abbrev pub all_tables : List Table
all_tables = meta_table ∷ dbs_table ∷ docs_table ∷ later_tables

-- the index of this name that SQLite makes for a unique key of the table at a tree
abbrev pub automatic_index : List ℕ → ℕ → ℕ → List ℕ → Index
automatic_index name tree table key = record { name = name; tree = tree; table = table; columns = key; order = plain; is_unique = true }

-- the indexes of local documents, declarations and entries
abbrev pub later_indexes : List Index
later_indexes =
    automatic_index (codes "sqlite_autoindex_locals_1") 9 8 (1 ∷ 2 ∷ []) ∷ automatic_index (codes "sqlite_autoindex_decls_1") 11 10 (2 ∷ 3 ∷ 4 ∷ [])
    ∷ automatic_index (codes "sqlite_autoindex_entries_1") 13 12 (1 ∷ 2 ∷ 3 ∷ []) ∷ []

-- those of databases, documents and revisions, and behind them these
abbrev pub all_indexes : List Index
all_indexes =
    automatic_index (codes "sqlite_autoindex_dbs_1") 2 1 (2 ∷ []) ∷ automatic_index (codes "sqlite_autoindex_docs_1") 4 3 (1 ∷ 2 ∷ [])
    ∷ automatic_index (codes "sqlite_autoindex_docs_2") 5 3 (1 ∷ 3 ∷ []) ∷ automatic_index (codes "sqlite_autoindex_revs_1") 7 6 (1 ∷ 2 ∷ 3 ∷ 4 ∷ []) ∷ later_indexes
