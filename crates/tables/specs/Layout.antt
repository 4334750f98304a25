-- When the rows of the tables are laid out as this server lays them out.
-- This server's own: what an opened file is held to, and what each write keeps.
use Rattle.std.specs.Prelude.{◌≡◌, ◌≢◌, ◌≤◌, ◌<◌, ◌^◌, ◌↔◌, IsTrue, IsUtf8, ℕ, ℤ, pos, ◌<ℤ◌, false, List, [], ◌∷◌, find, Option, Some, None, option_map}
use Rattle.std.specs.List.{AllByRecursion, list_any}
use Rattle.std.specs.Ordering.{int_eq}
use Rattle.couch_json.specs.Canonical.{canonical}
use Rattle.couch_json.specs.Lawful as json
use Rattle.policy.specs.Security.{is_security}
use Rattle.tree.specs.DocumentId.{is_document_id, is_local_id}
use Rattle.tree.specs.History.{is_known, held_of, is_deleted, winner}
use Rattle.tree.specs.Revision.{Revision, is_revision, text_of}
use Rattle.tree.specs.declared.entry.Held.{Held}
use Rattle.store.specs.DatabaseName.{is_database_name}
use Rattle.store.specs.Lawful.{AllEndAtLast, AreLawful, IsBody, IsLocalDocument}
use Rattle.sqlite_value.specs.declared.value.Value.TheVariants.{Int, Blob}
use Rattle.sqlite_value.specs.Order.{Row, column}
use Rattle.sqlite_trees.specs.Tree.{Trees, IsAscending, rowid}
use Rattle.sqlite.specs.Effect as sqlite
use Rattle.tables.specs.Schema.{schema, meta_tree, dbs_tree, docs_tree, revs_tree, locals_tree, decls_tree, entries_tree}
use Rattle.tables.specs.Rows.{number_of, db_of, id_of, is_row_of_document, count_cell, database_row, name_of, security_text, security_of, sequence_of_database, document_row, sequence_of_row, winner_text, is_gone_row, revision_row, revision_of_row, entry_of, local_row, local_of, history_in_rows, contents_in}

-- each row has a number, and the numbers rise
pub record AreNumbered (rows : List Row) : Type 0 where
  pub numbers : AllByRecursion (λ r. rowid r ≡ Int (number_of r)) rows
  pub rising : IsAscending (λ a b. number_of a <ℤ number_of b) rows

-- a row of a table that names the database first, and then the document
pub record IsKeyed (r : Row) : Type 0 where
  pub number : rowid r ≡ Int (number_of r)
  pub db : column r 1 ≡ Int (db_of r)
  pub id : column r 2 ≡ Blob (id_of r)

-- each row is so, and the numbers rise
pub record AreKeyed (rows : List Row) : Type 0 where
  pub keyed : AllByRecursion IsKeyed rows
  pub rising : IsAscending (λ a b. number_of a <ℤ number_of b) rows

-- the same, and no two rows are of one document
pub record AreDocumentRows (rows : List Row) : Type 0 where
  pub keyed : AreKeyed rows
  pub ids_apart : IsAscending (λ a b. db_of a ≡ db_of b → id_of a ≢ id_of b) rows

-- each row is that of a database, and the numbers rise
pub record AreDatabaseRows (rows : List Row) : Type 0 where
  pub each : AllByRecursion (λ r. r ≡ database_row (number_of r) (name_of r) (security_text r) (pos (sequence_of_database r))) rows
  pub rising : IsAscending (λ a b. number_of a <ℤ number_of b) rows

-- some database has this number
abbrev pub IsDatabaseNumber : Trees → ℤ → Type 0
IsDatabaseNumber trees db = IsTrue (list_any (λ r. int_eq (number_of r) db) (trees dbs_tree))

-- the row of the database of this number
abbrev pub database_row_at : List Row → ℤ → Option Row
database_row_at rows db = find (λ r. int_eq (number_of r) db) rows

-- the one row of `meta`, at this version
abbrev pub version_row : ℕ → Row
version_row n = Int (pos 1) ∷ count_cell n ∷ []

-- the row of a database with a name, a security object in canonical text, and a sequence
pub record IsDatabaseRow (r : Row) : Type 0 where
  pub is : r ≡ database_row (number_of r) (name_of r) (canonical (security_of r)) (pos (sequence_of_database r))
  pub named : IsTrue (is_database_name (name_of r))
  pub security : IsTrue (is_security (security_of r))
  pub bounded : sequence_of_database r < 2 ^ 63

-- the row of a document of a known database, at its winner, under an id that is no local one
pub record IsDocumentRow (trees : Trees) (r : Row) : Type 0 where
  pub is : r ≡ document_row (number_of r) (db_of r) (id_of r) (pos (sequence_of_row r)) (winner_text r) (is_gone_row r)
  pub there : IsDatabaseNumber trees (db_of r)
  pub named : IsTrue (is_document_id (id_of r))
  pub apart : is_local_id (id_of r) ≡ false
  pub text : IsUtf8 (id_of r)
  pub positive : 1 ≤ sequence_of_row r
  pub within : (d : Row) → database_row_at (trees dbs_tree) (db_of r) ≡ Some d → sequence_of_row r ≤ sequence_of_database d
  pub won : option_map text_of (winner (history_in_rows (trees revs_tree) (db_of r) (id_of r))) ≡ Some (winner_text r)
  pub gone : (w : Revision) → winner (history_in_rows (trees revs_tree) (db_of r) (id_of r)) ≡ Some w
      → is_gone_row r ≡ is_deleted (held_of (history_in_rows (trees revs_tree) (db_of r) (id_of r)) w)

-- the row of a known revision of a document that has a row of its own
pub record IsRevisionRow (trees : Trees) (r : Row) : Type 0 where
  pub is : r ≡ revision_row (number_of r) (db_of r) (id_of r) (revision_of_row r) (entry_of r)
  pub there : IsTrue (list_any (is_row_of_document (db_of r) (id_of r)) (trees docs_tree))
  pub lawful : IsTrue (is_revision (revision_of_row r))
  pub first : ((entry_of r).parent ≡ None) ↔ ((revision_of_row r).number ≡ 1)
  pub follows : (p : Revision) → (entry_of r).parent ≡ Some p → IsTrue (is_known (history_in_rows (trees revs_tree) (db_of r) (id_of r)) p)
  pub body : (held : Held) → (entry_of r).held ≡ Some held → IsBody held.body
  pub spelled : (held : Held) → (entry_of r).held ≡ Some held → json.IsLawful held.body

-- the row of a local document of a known database
pub record IsLocalRow (trees : Trees) (r : Row) : Type 0 where
  pub is : r ≡ local_row (number_of r) (db_of r) (id_of r) (local_of r).number (canonical (local_of r).body)
  pub there : IsDatabaseNumber trees (db_of r)
  pub named : IsTrue (is_document_id (id_of r))
  pub local : IsLocalDocument (id_of r) (local_of r)

-- All rows are so, no two of one table say the same thing, the databases that they hold are lawful, and the version is this one.
pub record IsLaidAt (n : ℕ) (trees : Trees) : Type 0 where
  pub version : trees meta_tree ≡ version_row n ∷ []
  pub dbs_numbered : AreNumbered (trees dbs_tree)
  pub docs_numbered : AreNumbered (trees docs_tree)
  pub revs_numbered : AreNumbered (trees revs_tree)
  pub locals_numbered : AreNumbered (trees locals_tree)
  pub dbs : AllByRecursion IsDatabaseRow (trees dbs_tree)
  pub names_apart : IsAscending (λ a b. name_of a ≢ name_of b) (trees dbs_tree)
  pub docs : AllByRecursion (IsDocumentRow trees) (trees docs_tree)
  pub ids_apart : IsAscending (λ a b. db_of a ≡ db_of b → id_of a ≢ id_of b) (trees docs_tree)
  pub sequences_apart : IsAscending (λ a b. db_of a ≡ db_of b → sequence_of_row a ≢ sequence_of_row b) (trees docs_tree)
  pub revs : AllByRecursion (IsRevisionRow trees) (trees revs_tree)
  pub revisions_apart : IsAscending (λ a b. db_of a ≡ db_of b → id_of a ≡ id_of b → revision_of_row a ≢ revision_of_row b) (trees revs_tree)
  pub locals : AllByRecursion (IsLocalRow trees) (trees locals_tree)
  pub local_ids_apart : IsAscending (λ a b. db_of a ≡ db_of b → id_of a ≢ id_of b) (trees locals_tree)
  pub lawful : ∥ AreLawful (contents_in trees) ∥₁

-- the same at the version that this server writes
abbrev pub IsWellFormed : Trees → Type 0
IsWellFormed = IsLaidAt 2

-- the database has these tables and no others, and their rows are laid out
pub record IsStore (db : sqlite.Database) : Type 0 where
  pub schema_is : db.schema ≡ schema
  pub laid : IsWellFormed db.trees

-- The same of a file of the first version between two calls, where each database's sequence is that of its last document. Its rows of
-- indexes are of an earlier layout: nothing is known of them but that their numbers rise.
pub record IsFirstStore (db : sqlite.Database) : Type 0 where
  pub schema_is : db.schema ≡ schema
  pub laid : IsLaidAt 1 db.trees
  pub ends : ∥ AllEndAtLast (contents_in db.trees) ∥₁
  pub decls_numbered : AreNumbered (db.trees decls_tree)
  pub entries_numbered : AreNumbered (db.trees entries_tree)

-- a file of the first version is a store now, with the same databases, and has no row of an index yet
pub record IsRenewed (old new : sqlite.Database) : Type 0 where
  pub store : IsStore new
  pub decls : new.trees decls_tree ≡ []
  pub entries : new.trees entries_tree ≡ []
  pub contents : contents_in new.trees ≡ contents_in old.trees

-- the tables with no row at all
pub record IsEmpty (db : sqlite.Database) : Type 0 where
  pub schema_is : db.schema ≡ schema
  pub meta : db.trees meta_tree ≡ []
  pub dbs : db.trees dbs_tree ≡ []
  pub docs : db.trees docs_tree ≡ []
  pub revs : db.trees revs_tree ≡ []
  pub locals : db.trees locals_tree ≡ []
  pub decls : db.trees decls_tree ≡ []
  pub entries : db.trees entries_tree ≡ []

-- the tables as they are made: with the version, and no other row
pub record IsNew (db : sqlite.Database) : Type 0 where
  pub schema_is : db.schema ≡ schema
  pub version : db.trees meta_tree ≡ version_row 2 ∷ []
  pub dbs : db.trees dbs_tree ≡ []
  pub docs : db.trees docs_tree ≡ []
  pub revs : db.trees revs_tree ≡ []
  pub locals : db.trees locals_tree ≡ []
  pub decls : db.trees decls_tree ≡ []
  pub entries : db.trees entries_tree ≡ []
