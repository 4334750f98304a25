-- When the rows of `decls` and `entries` are laid out as this server lays them out.
-- This server's own; what an opened file is held to, and what each change asks of its table.
use Rattle.std.specs.Prelude.{◌≡◌, ◌≢◌, true, IsUtf8, ◌<ℤ◌, List}
use Rattle.std.specs.List.{AllByRecursion}
use Rattle.couch_json.specs.FieldPath.{is_field_path}
use Rattle.sqlite.specs.Effect.{Database}
use Rattle.sqlite_trees.specs.Tree.{IsAscending}
use Rattle.sqlite_value.specs.Order.{Row}
use Rattle.tables.specs.Rows.{number_of}
use Rattle.tables.specs.Schema.{schema, decls_tree, entries_tree}
use Rattle.index.specs.Rows.{declaration_of, declaration_row, design_of, entry_id, entry_row, fields_of, fields_text, database_of_declaration, index_name_of_row, key_of}

-- the row of a declaration; its fields are paths
pub record IsDeclarationRow (r : Row) : Type 0 where
  pub is : r ≡ declaration_row (number_of r) (database_of_declaration r) (design_of r) (index_name_of_row r) (fields_text (fields_of r))
  pub paths : AllByRecursion (λ path. (is_field_path path ≡ true) × IsUtf8 path) (fields_of r)

-- the row of an entry
abbrev pub IsEntryRow : Row → Type 0
IsEntryRow r = r ≡ entry_row (number_of r) (declaration_of r) (key_of r) (entry_id r)

-- each row is that of a declaration, the numbers rise, and no two rows are of one index
pub record AreDeclarationRows (rows : List Row) : Type 0 where
  pub each : AllByRecursion IsDeclarationRow rows
  pub rising : IsAscending (λ a b. number_of a <ℤ number_of b) rows
  pub apart : IsAscending (λ a b. database_of_declaration a ≡ database_of_declaration b → design_of a ≡ design_of b → index_name_of_row a ≢ index_name_of_row b) rows

-- each row is that of an entry, the numbers rise, and no two rows are of one entry
pub record AreEntryRows (rows : List Row) : Type 0 where
  pub each : AllByRecursion IsEntryRow rows
  pub rising : IsAscending (λ a b. number_of a <ℤ number_of b) rows
  pub apart : IsAscending (λ a b. declaration_of a ≡ declaration_of b → key_of a ≡ key_of b → entry_id a ≢ entry_id b) rows

-- the tables are ours, and the rows of these two are laid out; what a query asks of them
pub record HasIndexRows (db : Database) : Type 0 where
  pub schema_is : db.schema ≡ schema
  pub decls : AreDeclarationRows (db.trees decls_tree)
  pub entries : AreEntryRows (db.trees entries_tree)
