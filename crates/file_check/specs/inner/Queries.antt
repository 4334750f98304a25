-- What is answered of the rows of tables, and what the statements of a check show of them.
-- This server's own, over `Layout` of `tables`.
use Rattle.std.specs.Prelude.{◌≡◌, ◌&&◌, Bool, bytes_eq, ℕ, ℤ, pos, List, [], ◌∷◌, option_map, Option, Some, None, MatchOption, ⊤}
use Rattle.std.specs.List.{AllByRecursion}
use Rattle.std.specs.Ordering.{int_eq}
use Rattle.sqlite_value.specs.declared.value.Value.TheVariants.{Int}
use Rattle.sqlite_value.specs.Order.{Row, bytes, column}
use Rattle.sqlite_trees.specs.Tree.{Trees}
use Rattle.tables.specs.Layout.{database_row_at, IsRevisionRow}
use Rattle.tables.specs.Rows.{id_of, is_row_of_database, whole_in_cell}
use Rattle.tables.specs.Schema.{dbs_tree, revs_tree}
use Rattle.file_check.specs.Indexes.{AreChecked}
use Rattle.file_check.specs.declared.finding.Finding.{Finding}
use Rattle.file_check.specs.declared.layout.checked.Checked.{Checked}
use Rattle.file_check.specs.declared.layout.checked.Checked.TheVariants.{Databases, Documents, Revisions, Locals}
use Rattle.file_check.specs.Tables.{HasDatabaseCells, HasDocumentCells, HasLocalCells, HasRevisionCells, IsSoundRow, table_of_finding, tree_of}

-- the cells of a row of this table are of the kinds of its columns
abbrev pub HasCells : Checked → Row → Type 0
HasCells Databases r = HasDatabaseCells r
HasCells Documents r = HasDocumentCells r
HasCells Revisions r = HasRevisionCells r
HasCells Locals r = HasLocalCells r

-- what is known before the rows of a table are checked: of documents, that the revisions are sound
abbrev pub IsBefore : Checked → Trees → Type 0
IsBefore Databases trees = ⊤
IsBefore Documents trees = AllByRecursion (IsRevisionRow trees) (trees revs_tree)
IsBefore Revisions trees = ⊤
IsBefore Locals trees = ⊤

-- nothing is wrong where it is so, and where something is wrong it is not so
abbrev pub Judges : {W : Type 0} → Type 0 → Option W → Type 0
Judges IsSo found = MatchOption found IsSo (λ _. ¬ IsSo)

-- the one row of this version
pub record IsThisVersion (rows : List Row) : Type 0 where
  pub row : Row
  pub is : rows ≡ row ∷ []
  pub number : column row 0 ≡ Int (pos 1)
  pub version : column row 1 ≡ Int (pos 2)

-- nothing is found, and each row of the table is sound; or a row is found that is not
abbrev pub AreRowsChecked : Checked → Trees → Option Finding → Type 0
AreRowsChecked of trees found = AreChecked (table_of_finding of) (trees (tree_of of)) (IsSoundRow of trees) found

-- ---- rows by their keys

-- what a query of a database's row by its number shows: its sequence
abbrev pub shown_length : Row → Row
shown_length r = column r 4 ∷ []

-- the sequence that the first row shows, if there is one
abbrev pub length_shown : List Row → Option ℤ
length_shown [] = None
length_shown (s ∷ more) = Some (whole_in_cell (column s 0))

-- the sequence of the database of this number, as it is stored
abbrev pub length_at : Trees → ℤ → Option ℤ
length_at trees db = option_map (λ d. whole_in_cell (column d 4)) (database_row_at (trees dbs_tree) db)

-- what a query of a document by its sequence shows: this sequence
abbrev pub shown_sequence : Row → Row
shown_sequence r = column r 3 ∷ []

-- the row of a revision of the document of this id, as it is stored
abbrev pub is_stored : ℤ → List ℕ → ℤ → List ℕ → Row → Bool
is_stored db id n hash r = is_row_of_database db r && (bytes_eq (id_of r) id && (int_eq (whole_in_cell (column r 3)) n && bytes_eq (bytes (column r 4)) hash))

-- what a query of one such row shows: its number
abbrev pub shown_stored : Row → Row
shown_stored r = column r 3 ∷ []

-- the same, whatever the hash is
abbrev pub is_numbered : ℤ → List ℕ → ℤ → Row → Bool
is_numbered db id n r = is_row_of_database db r && (bytes_eq (id_of r) id && int_eq (whole_in_cell (column r 3)) n)

-- what a query of the revisions of one number shows of a row: its hash
abbrev pub shown_numbered : Row → Row
shown_numbered r = column r 4 ∷ []

-- a row of that query shows this hash
abbrev pub is_shown_hash : List ℕ → Row → Bool
is_shown_hash hash s = bytes_eq (bytes (column s 0)) hash
