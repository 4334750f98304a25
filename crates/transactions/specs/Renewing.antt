-- A file of the first version that is carried over: what its design documents declare is declared anew, one document after another.
-- This server's own: what index rows are to be is said by `index`, and what the two versions are by `tables`.
use Rattle.std.specs.Prelude.{◌≡◌, ◌≢◌, false, if◌then◌else◌, length, List, [], ◌∷◌, map, None}
use Rattle.std.specs.List.{AllByRecursion, list_any}
use Rattle.sqlite.specs.Effect.{Database}
use Rattle.sqlite_trees.specs.Tree.{IsAscending}
use Rattle.sqlite_value.specs.Order.{Row, column}
use Rattle.tables.specs.Layout.{IsDocumentRow, IsStore}
use Rattle.tables.specs.Listings.{SpellsId, named_document}
use Rattle.tables.specs.Rows.{contents_in, db_of, id_of, is_row_of_document}
use Rattle.tables.specs.Schema.{decls_tree, entries_tree}
use Rattle.tables.specs.Shown.{IsWhole}
use Rattle.index.specs.Calls.{ChangesIndexes}
use Rattle.index.specs.Indexed.{AreIndexed}
use Rattle.index.specs.Meaning.{Declarations, declares_in, sees_in}
use Rattle.transactions.specs.Indexing.{IsIndexedStore}

-- the file is a store now, with the rows of its indexes, and holds the databases that it held
pub record IsCarriedOver (old new : Database) : Type 0 where
  pub indexed : IsIndexedStore new
  pub contents : contents_in new.trees ≡ contents_in old.trees

-- the tables are laid out, and no index has a row
pub record HasNoIndexes (b : Database) : Type 0 where
  pub store : IsStore b
  pub decls : b.trees decls_tree ≡ []
  pub entries : b.trees entries_tree ≡ []

-- what a row is that names a document among those of all databases
pub record IsShownName (s : Row) : Type 0 where
  pub width : length s ≡ 2
  pub db : IsWhole (column s 0)
  pub id : SpellsId (column s 1)

-- the documents of these rows declare nothing
abbrev pub without_documents : Declarations → List Row → Declarations
without_documents declares left db design name = if list_any (is_row_of_document db design) left then None else declares db design name

-- the rows of indexes are those of what is stored, but that the documents of these rows declare nothing; and no other table has changed
pub record AreRedeclared (left : List Row) (old new : Database) : Type 0 where
  pub indexed : AreIndexed (without_documents (declares_in new.trees) left) (sees_in new.trees) new.trees
  pub only : ChangesIndexes old new

-- the document of this row, which a query shows so, and those of further ones declare nothing yet
pub record IsToRedeclare (shown d : Row) (left : List Row) (b : Database) : Type 0 where
  pub store : IsStore b
  pub row : IsDocumentRow b.trees d
  pub shown_is : shown ≡ named_document d
  pub apart : list_any (is_row_of_document (db_of d) (id_of d)) left ≡ false
  pub indexed : AreIndexed (without_documents (declares_in b.trees) (d ∷ left)) (sees_in b.trees) b.trees

-- the documents of these rows, which a query shows so, declare nothing yet
pub record AreToRedeclare (shown docs : List Row) (b : Database) : Type 0 where
  pub store : IsStore b
  pub rows : AllByRecursion (IsDocumentRow b.trees) docs
  pub apart : IsAscending (λ c d. db_of c ≡ db_of d → id_of c ≢ id_of d) docs
  pub shown_is : shown ≡ map named_document docs
  pub indexed : AreIndexed (without_documents (declares_in b.trees) docs) (sees_in b.trees) b.trees
