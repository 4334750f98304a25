-- What a check of the tables decides: what SQLite says of the rows of each table, and when a row is sound.
-- This server's own, over `Layout` of `tables`.
use Rattle.std.specs.Prelude.{◌≡◌, ◌≢◌, ◌⊎◌, ◌&&◌, ◌||◌, ℕ, ℤ, pos, Bool, true, IsTrue, List, [], ◌∷◌, length, is_some, Option, MatchOption}
use Rattle.std.specs.List.{AllByRecursion, list_any}
use Rattle.std.specs.Ordering.{int_eq}
use Rattle.sqlite.specs.Effect.{Database}
use Rattle.sqlite_value.specs.declared.value.Value.{Value}
use Rattle.sqlite_value.specs.declared.value.Value.TheVariants.{Null, Int, Text, Blob}
use Rattle.sqlite_value.specs.Order.{Row, bytes, column}
use Rattle.sqlite_trees.specs.Tree.{Trees, IsAscending}
use Rattle.tree.specs.History.{HistoryContent, held_of, is_leaf}
use Rattle.tree.specs.Revision.{Revision}
use Rattle.store.specs.Lawful.{AllEndAtLast}
use Rattle.tables.specs.Layout.{AreNumbered, version_row, IsDatabaseRow, IsDocumentRow, IsLocalRow, IsRevisionRow, IsStore}
use Rattle.tables.specs.Rows.{contents_in, db_of, history_in_rows, id_of, is_row_of_database, name_of, number_of, security_text, whole_in_cell, winner_text}
use Rattle.tables.specs.Schema.{schema, meta_tree, dbs_tree, docs_tree, revs_tree, locals_tree}
use Rattle.file_check.specs.Indexes.{IsFinding}
use Rattle.file_check.specs.declared.finding.Finding.{Finding}
use Rattle.file_check.specs.declared.finding.Table.{Table}
use Rattle.file_check.specs.declared.finding.Table.TheVariants as table
use Rattle.file_check.specs.declared.layout.checked.Checked.{Checked}
use Rattle.file_check.specs.declared.layout.checked.Checked.TheVariants.{Databases, Documents, Revisions, Locals}

-- ---- what SQLite keeps of each table

-- The numbers of the rows rise, as they do in each tree of a table. No row of `revs` lacks a column, as rows do from before a column was added.
pub record AreKept (trees : Trees) : Type 0 where
  pub meta : AreNumbered (trees meta_tree)
  pub dbs : AreNumbered (trees dbs_tree)
  pub docs : AreNumbered (trees docs_tree)
  pub revs : AreNumbered (trees revs_tree)
  pub locals : AreNumbered (trees locals_tree)
  pub whole : AllByRecursion (λ r. length r ≡ 9) (trees revs_tree)

-- a text, or null
abbrev pub IsTextOrNull : Value → Type 0
IsTextOrNull v = (v ≡ Null) ⊎ (v ≡ Text (bytes v))

-- the cells of a row are of the kinds of its columns
abbrev pub HasVersionCells : Row → Type 0
HasVersionCells r = r ≡ Int (number_of r) ∷ Int (whole_in_cell (column r 1)) ∷ []

abbrev pub HasDatabaseCells : Row → Type 0
HasDatabaseCells r = r ≡ Int (number_of r) ∷ Null ∷ Blob (name_of r) ∷ Text (security_text r) ∷ Int (whole_in_cell (column r 4)) ∷ []

abbrev pub HasDocumentCells : Row → Type 0
HasDocumentCells r = r ≡ Int (number_of r) ∷ Int (db_of r) ∷ Blob (id_of r) ∷ Int (whole_in_cell (column r 3)) ∷ Text (winner_text r) ∷ Int (whole_in_cell (column r 5)) ∷ []

pub record HasRevisionCells (r : Row) : Type 0 where
  pub is : r ≡ Int (number_of r) ∷ Int (db_of r) ∷ Blob (id_of r) ∷ Int (whole_in_cell (column r 3)) ∷ Text (bytes (column r 4)) ∷ column r 5 ∷ Int (whole_in_cell (column r 6)) ∷ Int (whole_in_cell (column r 7)) ∷ column r 8 ∷ []
  pub parent : IsTextOrNull (column r 5)
  pub body : IsTextOrNull (column r 8)

abbrev pub HasLocalCells : Row → Type 0
HasLocalCells r = r ≡ Int (number_of r) ∷ Int (db_of r) ∷ Blob (id_of r) ∷ Int (whole_in_cell (column r 3)) ∷ Text (bytes (column r 4)) ∷ []

-- the number and the hash of the row of a revision, as they are stored
abbrev pub stored_revision : Row → ℤ × List ℕ
stored_revision r = (whole_in_cell (column r 3), bytes (column r 4))

-- The rows of each table are numbered, have cells of the kinds of its columns, and no two have the same unique key.
pub record AreShaped (trees : Trees) : Type 0 where
  pub kept : AreKept trees
  pub meta : AllByRecursion HasVersionCells (trees meta_tree)
  pub dbs : AllByRecursion HasDatabaseCells (trees dbs_tree)
  pub docs : AllByRecursion HasDocumentCells (trees docs_tree)
  pub revs : AllByRecursion HasRevisionCells (trees revs_tree)
  pub locals : AllByRecursion HasLocalCells (trees locals_tree)
  pub names_apart : IsAscending (λ a b. name_of a ≢ name_of b) (trees dbs_tree)
  pub ids_apart : IsAscending (λ a b. db_of a ≡ db_of b → id_of a ≢ id_of b) (trees docs_tree)
  pub sequences_apart : IsAscending (λ a b. db_of a ≡ db_of b → whole_in_cell (column a 3) ≢ whole_in_cell (column b 3)) (trees docs_tree)
  pub revisions_apart : IsAscending (λ a b. db_of a ≡ db_of b → id_of a ≡ id_of b → stored_revision a ≢ stored_revision b) (trees revs_tree)
  pub local_ids_apart : IsAscending (λ a b. db_of a ≡ db_of b → id_of a ≢ id_of b) (trees locals_tree)

-- the schema is ours, and the rows are shaped by it
pub record IsShaped (db : Database) : Type 0 where
  pub schema_is : db.schema ≡ schema
  pub shaped : AreShaped db.trees

-- ---- when a row is sound

-- something is held of each leaf, since each is what a write made
abbrev pub HasHeldLeaves : HistoryContent → Type 0
HasHeldLeaves h = (r : Revision) → IsTrue (is_leaf h r) → IsTrue (is_some (held_of h r))

-- the row of a document of this database at this sequence, as it is stored
abbrev pub is_at_sequence : ℤ → ℤ → Row → Bool
is_at_sequence db sequence r = is_row_of_database db r && int_eq (whole_in_cell (column r 3)) sequence

-- the sequence of this row of a database is 0, or some document of it is at this sequence
abbrev pub has_last_row : Trees → Row → Bool
has_last_row trees r =
    int_eq (whole_in_cell (column r 4)) (pos 0) || list_any (is_at_sequence (number_of r) (whole_in_cell (column r 4))) (trees docs_tree)

-- the row of a database, whose sequence is that of its last document, or 0
pub record IsSoundDatabase (trees : Trees) (r : Row) : Type 0 where
  pub row : IsDatabaseRow r
  pub ends : has_last_row trees r ≡ true

-- the row of a document, whose leaves are held
pub record IsSoundDocument (trees : Trees) (r : Row) : Type 0 where
  pub row : IsDocumentRow trees r
  pub leaves : HasHeldLeaves (history_in_rows (trees revs_tree) (db_of r) (id_of r))

-- ---- the tables that are checked row by row

-- the tree of a table's rows
abbrev pub tree_of : Checked → ℕ
tree_of Databases = dbs_tree
tree_of Documents = docs_tree
tree_of Revisions = revs_tree
tree_of Locals = locals_tree

-- the row is sound
abbrev pub IsSoundRow : Checked → Trees → Row → Type 0
IsSoundRow Databases trees r = IsSoundDatabase trees r
IsSoundRow Documents trees r = IsSoundDocument trees r
IsSoundRow Revisions trees r = IsRevisionRow trees r
IsSoundRow Locals trees r = IsLocalRow trees r

-- each row of the table is sound
abbrev pub AreSoundRows : Checked → Trees → Type 0
AreSoundRows table trees = AllByRecursion (IsSoundRow table trees) (trees (tree_of table))

-- ---- one table after the other

-- the version is this one, and the databases are sound
pub record HasSoundDatabases (trees : Trees) : Type 0 where
  pub version : trees meta_tree ≡ version_row 2 ∷ []
  pub dbs : AreSoundRows Databases trees

-- so are the revisions
pub record HasSoundRevisions (trees : Trees) : Type 0 where
  pub before : HasSoundDatabases trees
  pub revs : AreSoundRows Revisions trees

-- so are the documents
pub record HasSoundDocuments (trees : Trees) : Type 0 where
  pub before : HasSoundRevisions trees
  pub docs : AreSoundRows Documents trees

-- so are the local documents
pub record HasSoundLocals (trees : Trees) : Type 0 where
  pub before : HasSoundDocuments trees
  pub locals : AreSoundRows Locals trees

-- ---- what is decided

-- the tables are those of a store between two calls, whatever the rows of its indexes are
pub record IsRestingStore (db : Database) : Type 0 where
  pub store : IsStore db
  pub ends : ∥ AllEndAtLast (contents_in db.trees) ∥₁

-- ---- what is found

-- the table that a finding in these rows names
abbrev pub table_of_finding : Checked → Table
table_of_finding Databases = table.Databases
table_of_finding Documents = table.Documents
table_of_finding Revisions = table.Revisions
table_of_finding Locals = table.Locals

-- the row of this table with the finding's number is not sound
abbrev pub IsRowFinding : Checked → Trees → Finding → Type 0
IsRowFinding of trees f = IsFinding (table_of_finding of) (trees (tree_of of)) (IsSoundRow of trees) f

-- `meta` has other rows than the one of this version
pub record IsVersionFinding (trees : Trees) (f : Finding) : Type 0 where
  pub of_table : f.table ≡ table.Meta
  pub fails : trees meta_tree ≢ version_row 2 ∷ []

-- the version is another, or a row of one of the tables is not sound
abbrev pub IsTableFinding : Trees → Finding → Type 0
IsTableFinding trees f = IsVersionFinding trees f ⊎ ((of : Checked) × IsRowFinding of trees f)

-- nothing is found, and the tables are so; or a row is found that is not sound
abbrev pub AreTablesChecked : (Trees → Type 0) → Trees → Option Finding → Type 0
AreTablesChecked AreSo trees found = MatchOption found (AreSo trees) (IsTableFinding trees)
