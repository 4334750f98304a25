-- What an entry is that of, and which row declares an index.
-- This server's own words for the laws on index rows.
use Rattle.std.specs.Prelude.{◌≡◌, ℕ, ℤ, List, Some}
use Rattle.sqlite_trees.specs.Tree.{Trees}
use Rattle.sqlite_value.specs.Order.{Row}
use Rattle.tables.specs.Schema.{decls_tree}
use Rattle.index.specs.Meaning.{Declarations, Documents, key_if_seen}
use Rattle.index.specs.Rows.{declaration_at, design_of, fields_of, database_of_declaration, index_name_of_row}

-- the declaration of this number is that of this index, with these fields
pub record IsDeclaredAs (trees : Trees) (number : ℤ) (db : ℤ) (design name : List ℕ) (fields : List (List ℕ)) : Type 0 where
  pub row : Row
  pub found : declaration_at (trees decls_tree) number ≡ Some row
  pub home : database_of_declaration row ≡ db
  pub design_is : design_of row ≡ design
  pub name_is : index_name_of_row row ≡ name
  pub fields_are : fields_of row ≡ fields

-- the entry is that of an index that is declared, and of a document that is seen and has this key in it
pub record IsEntryOf (declares : Declarations) (sees : Documents) (trees : Trees) (number : ℤ) (k id : List ℕ) : Type 0 where
  pub db : ℤ
  pub design : List ℕ
  pub name : List ℕ
  pub fields : List (List ℕ)
  pub declared : declares db design name ≡ Some fields
  pub row : IsDeclaredAs trees number db design name fields
  pub key : key_if_seen fields (sees db id) ≡ Some k
