-- When the rows of indexes are those of what is stored, row by row, and what a check of them finds.
-- This server's own, over `Indexed` of `index`.
use Rattle.std.specs.Prelude.{◌≡◌, ◌≢◌, ◌⊎◌, ℕ, ℤ, ◌<ℤ◌, IsUtf8, Bool, true, false, List, find, IfSome, MatchOption, Option, Some, option_map}
use Rattle.std.specs.List.{AllByRecursion, list_any}
use Rattle.couch_json.specs.FieldPath.{is_field_path}
use Rattle.couch_json.specs.Value.{Value}
use Rattle.sqlite.specs.Effect.{Database}
use Rattle.sqlite_value.specs.Order.{Row, bytes, column}
use Rattle.sqlite_trees.specs.Tree.{Trees, IsAscending}
use Rattle.tables.specs.Layout.{IsStore}
use Rattle.tables.specs.Rows.{db_of, has_number, id_of, number_of}
use Rattle.tables.specs.Schema.{schema, decls_tree, docs_tree, entries_tree}
use Rattle.index.specs.Indexed.{IsIndexed, is_due}
use Rattle.index.specs.Layout.{AreEntryRows, HasIndexRows, IsDeclarationRow}
use Rattle.index.specs.Meaning.{declares_in, key_if_seen, sees_in}
use Rattle.index.specs.Rows.{declaration_of, declaration_row, design_of, entry_id, fields_of, fields_text, has_entry, database_of_declaration, index_name_of_row, is_declaration_of, key_of}
use Rattle.file_check.specs.declared.finding.Finding.{Finding}
use Rattle.file_check.specs.declared.finding.Table.{Table}
use Rattle.file_check.specs.declared.finding.Table.TheVariants as table

-- ---- what SQLite keeps of the rows of indexes

-- the cells of the row of a declaration are of the kinds of its columns
abbrev pub HasDeclarationCells : Row → Type 0
HasDeclarationCells r = r ≡ declaration_row (number_of r) (database_of_declaration r) (design_of r) (index_name_of_row r) (bytes (column r 5))

-- each row has such cells, the numbers rise, and no two rows are of one index
pub record AreDeclarationCells (rows : List Row) : Type 0 where
  pub each : AllByRecursion HasDeclarationCells rows
  pub rising : IsAscending (λ a b. number_of a <ℤ number_of b) rows
  pub apart : IsAscending (λ a b. database_of_declaration a ≡ database_of_declaration b → design_of a ≡ design_of b → index_name_of_row a ≢ index_name_of_row b) rows

-- the tables are ours, and the rows of these two have cells of the kinds of their columns, and their unique keys
pub record HasIndexCells (db : Database) : Type 0 where
  pub schema_is : db.schema ≡ schema
  pub decls : AreDeclarationCells (db.trees decls_tree)
  pub entries : AreEntryRows (db.trees entries_tree)

-- the tables are laid out but for the rows of indexes, whose cells SQLite keeps
pub record IsCheckable (db : Database) : Type 0 where
  pub store : IsStore db
  pub cells : HasIndexCells db

-- the tables are laid out, those of indexes too
pub record IsReadable (db : Database) : Type 0 where
  pub store : IsStore db
  pub rows : HasIndexRows db

-- ---- when a row is that of what is stored

-- each field is a path
abbrev pub ArePaths : List (List ℕ) → Type 0
ArePaths fields = AllByRecursion (λ path. (is_field_path path ≡ true) × IsUtf8 path) fields

-- this is the text of the fields, which are paths; or there are none
pub record Spells (fields : Option (List (List ℕ))) (text : Option (List ℕ)) : Type 0 where
  pub says : text ≡ option_map fields_text fields
  pub paths : IfSome fields ArePaths

-- the row of an index is laid out, and says the fields with which the winner of its design document declares it
pub record IsOwnDeclaration (trees : Trees) (r : Row) : Type 0 where
  pub row : IsDeclarationRow r
  pub declared : declares_in trees (database_of_declaration r) (design_of r) (index_name_of_row r) ≡ Some (fields_of r)

-- each index of these fields that the design document declares has a row
abbrev pub HaveRows : ℤ → List ℕ → (List ℕ → Option (List (List ℕ))) → Trees → Type 0
HaveRows db design declares trees = (name : List ℕ) (fields : List (List ℕ)) → declares name ≡ Some fields → list_any (is_declaration_of db design name) (trees decls_tree) ≡ true

-- the index of the row has the entry of the document of this id, of which this is seen, at the key that it has there
abbrev pub HasItsKey : List ℕ → Option Value → Trees → Row → Type 0
HasItsKey id seen trees r = (k : List ℕ) → key_if_seen (fields_of r) seen ≡ Some k → has_entry (trees entries_tree) (number_of r) k id ≡ true

-- so has each index of the database
abbrev pub HaveItsKeys : ℤ → List ℕ → Option Value → Trees → Type 0
HaveItsKeys db id seen trees = AllByRecursion (λ r. database_of_declaration r ≡ db → HasItsKey id seen trees r) (trees decls_tree)

-- each index that the document of this row declares has a row, and each index of its database has its entry
pub record IsIndexedDocument (trees : Trees) (d : Row) : Type 0 where
  pub declared : HaveRows (db_of d) (id_of d) (declares_in trees (db_of d) (id_of d)) trees
  pub entered : HaveItsKeys (db_of d) (id_of d) (sees_in trees (db_of d) (id_of d)) trees

-- the entry is that of a declared index, at the key of a document that queries see
abbrev pub IsOwnEntry : Trees → Row → Type 0
IsOwnEntry trees e = is_due (sees_in trees) (trees decls_tree) (declaration_of e) (key_of e) (entry_id e) ≡ true

-- each row of indexes is that of what is stored, and none is missing
pub record AreIndexRows (trees : Trees) : Type 0 where
  pub decls : AllByRecursion (IsOwnDeclaration trees) (trees decls_tree)
  pub documents : AllByRecursion (IsIndexedDocument trees) (trees docs_tree)
  pub entries : AllByRecursion (IsOwnEntry trees) (trees entries_tree)

-- ---- what is found

-- it is so, or it is not
abbrev pub IsAnswer : Type 0 → Bool → Type 0
IsAnswer IsSo true = IsSo
IsAnswer IsSo false = ¬ IsSo

-- the row of this number is there, and is not so
pub record FailsAt (rows : List Row) (Is : Row → Type 0) (number : ℤ) : Type 0 where
  pub row : Row
  pub there : find (has_number number) rows ≡ Some row
  pub fails : ¬ Is row

-- a row of this table is not so
pub record IsFinding (of : Table) (rows : List Row) (Is : Row → Type 0) (f : Finding) : Type 0 where
  pub of_table : f.table ≡ of
  pub fails : FailsAt rows Is f.key

-- a row of one of the three tables is not that of what is stored
abbrev pub IsIndexFinding : Trees → Finding → Type 0
IsIndexFinding trees f =
    IsFinding table.Declarations (trees decls_tree) (IsOwnDeclaration trees) f
    ⊎ (IsFinding table.Documents (trees docs_tree) (IsIndexedDocument trees) f ⊎ IsFinding table.Entries (trees entries_tree) (IsOwnEntry trees) f)

-- nothing is found, and all rows are so; or a row is found that is not
abbrev pub AreChecked : Table → List Row → (Row → Type 0) → Option Finding → Type 0
AreChecked of rows Is found = MatchOption found (AllByRecursion Is rows) (IsFinding of rows Is)

-- nothing is found, and the rows of indexes are those of what is stored; or a row is found at which they are not
abbrev pub AreIndexesChecked : Trees → Option Finding → Type 0
AreIndexesChecked trees found = MatchOption found (IsIndexed trees) (IsIndexFinding trees)
