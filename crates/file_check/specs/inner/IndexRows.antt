-- The tables that the check of indexes looks at, what its statements show of a row, and when a row is one that is looked at.
-- This server's own, over `Rows` of `index`.
use Rattle.std.specs.Prelude.{◌≡◌, ℕ, List, ◌∷◌, [], map, None, Option, Some, Result, Ok, Err}
use Rattle.std.specs.List.{AllByRecursion}
use Rattle.sqlite.specs.Effect.{Database}
use Rattle.sqlite_trees.specs.Tree.{Trees, rowid}
use Rattle.sqlite_value.specs.Order.{Row, column}
use Rattle.tables.specs.Layout.{IsDocumentRow}
use Rattle.tables.specs.Rows.{number_of}
use Rattle.tables.specs.Schema.{decls_tree, docs_tree, entries_tree}
use Rattle.index.specs.Layout.{IsEntryRow}
use Rattle.index.specs.Rows.{declaration_at, declaration_of}
use Rattle.index.specs.declared.declaration.Declaration.{Declaration}
use Rattle.index.specs.declared.fault.IndexFault.{IndexFault}
use Rattle.index.specs.declared.fault.IndexFault.TheVariants as index
use Rattle.file_check.specs.Indexes.{HasDeclarationCells, IsCheckable, IsIndexedDocument, IsOwnDeclaration, IsOwnEntry, IsReadable}
use Rattle.file_check.specs.declared.finding.CheckFault.{CheckFault}
use Rattle.file_check.specs.declared.finding.CheckFault.TheVariants as check
use Rattle.file_check.specs.declared.finding.Table.{Table}
use Rattle.file_check.specs.declared.finding.Table.TheVariants as table
use Rattle.file_check.specs.declared.indexes.indexed.Indexed.{Indexed}
use Rattle.file_check.specs.declared.indexes.indexed.Indexed.TheVariants.{Declarations, Documents, Entries}

-- ---- the tables

-- the tree of a table's rows
abbrev pub indexed_tree : Indexed → ℕ
indexed_tree Declarations = decls_tree
indexed_tree Documents = docs_tree
indexed_tree Entries = entries_tree

-- the table that a finding in these rows names
abbrev pub indexed_table : Indexed → Table
indexed_table Declarations = table.Declarations
indexed_table Documents = table.Documents
indexed_table Entries = table.Entries

-- what is known before the rows of a table are looked at
abbrev pub IsReady : Indexed → Database → Type 0
IsReady Declarations db = IsCheckable db
IsReady Documents db = IsReadable db
IsReady Entries db = IsReadable db

-- what is known of such a row then: its cells, or that it is laid out
abbrev pub IsKnownRow : Indexed → Trees → Row → Type 0
IsKnownRow Declarations trees r = HasDeclarationCells r
IsKnownRow Documents trees r = IsDocumentRow trees r
IsKnownRow Entries trees r = IsEntryRow r

-- what is asked of it: that it is that of what is stored, or that the rows of indexes follow its document
abbrev pub IsOwnRow : Indexed → Trees → Row → Type 0
IsOwnRow Declarations trees r = IsOwnDeclaration trees r
IsOwnRow Documents trees r = IsIndexedDocument trees r
IsOwnRow Entries trees r = IsOwnEntry trees r

-- ---- what is shown of a row

-- its number, and behind it: of a declaration the number of its database, the design document, the name and the text of
-- its fields; of a document the number of its database, and its id; of an entry the number of its declaration, the key
-- and the id
abbrev pub shown_next : Indexed → Row → Row
shown_next Declarations r = rowid r ∷ column r 2 ∷ column r 3 ∷ column r 4 ∷ column r 5 ∷ []
shown_next Documents r = rowid r ∷ column r 1 ∷ column r 2 ∷ []
shown_next Entries r = rowid r ∷ column r 1 ∷ column r 2 ∷ column r 3 ∷ []

-- of a declaration what names its index: the number of the database, the design document and the name
abbrev pub shown_index : Row → Row
shown_index r = column r 2 ∷ column r 3 ∷ column r 4 ∷ []

-- ---- the row that is looked at

-- the tables are as they are to be before a table's rows are looked at, and this is shown of one of them
pub record IsNextRow (of : Indexed) (shown r : Row) (db : Database) : Type 0 where
  pub ready : IsReady of db
  pub row : IsKnownRow of db.trees r
  pub shown_is : shown ≡ shown_next of r

-- the tables are laid out, and this is shown of a row of a declaration
pub record IsShownIndex (shown r : Row) (db : Database) : Type 0 where
  pub readable : IsReadable db
  pub found : declaration_at (db.trees decls_tree) (number_of r) ≡ Some r
  pub shown_is : shown ≡ shown_index r

-- the same of several
pub record AreShownIndexes (shown decls : List Row) (db : Database) : Type 0 where
  pub readable : IsReadable db
  pub found : AllByRecursion (λ r. declaration_at (db.trees decls_tree) (number_of r) ≡ Some r) decls
  pub shown_is : shown ≡ map shown_index decls

-- the first is shown of the declaration that an entry names, and the second of the entry
pub record IsEntryUnder (index d shown e : Row) (db : Database) : Type 0 where
  pub entry : IsNextRow Entries shown e db
  pub found : declaration_at (db.trees decls_tree) (declaration_of e) ≡ Some d
  pub index_is : index ≡ shown_index d

-- what is told of an index that was looked for: what was found; nothing, where its row is not laid out; or why the search failed
abbrev pub TellsFound : Result (Option Declaration) IndexFault → Result (Option Declaration) CheckFault → Type 0
TellsFound (Ok found) told = told ≡ Ok found
TellsFound (Err (index.Sqlite e)) told = told ≡ Err (check.Sqlite e)
TellsFound (Err index.Memory) told = told ≡ Err check.Memory
TellsFound (Err index.Damaged) told = told ≡ Ok None
