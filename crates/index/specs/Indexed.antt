-- When the rows of `decls` are the indexes that are declared, and those of `entries` are the keys that documents have in them.
-- This server's own: stated of each entry apart, with what is declared and what is seen as parameters, so that each step within a change has its statement.
use Rattle.std.specs.Prelude.{◌≡◌, ℕ, ℤ, Bool, false, ◌&&◌, bytes_eq, not, if◌then◌else◌, List, Option, Some, None}
use Rattle.std.specs.List.{list_any}
use Rattle.std.specs.Ordering.{int_eq}
use Rattle.sqlite_trees.specs.Tree.{Trees}
use Rattle.sqlite_value.specs.Order.{Row}
use Rattle.tables.specs.Rows.{has_number}
use Rattle.tables.specs.Schema.{decls_tree, entries_tree}
use Rattle.index.specs.Layout.{AreDeclarationRows, AreEntryRows}
use Rattle.index.specs.Meaning.{Declarations, Documents, declares_in, is_key, key_if_seen, sees_in}
use Rattle.index.specs.Rows.{declaration_at, declared_by, fields_of, has_entry, database_of_declaration}

-- which entries there are to be, by the number of the declaration, the key and the id
abbrev pub Entries : Type 0
Entries = ℤ → List ℕ → List ℕ → Bool

-- the document of this id has this key in the index of this declaration, which may be none
abbrev pub is_due_by : Documents → Option Row → List ℕ → List ℕ → Bool
is_due_by sees None k id = false
is_due_by sees (Some d) k id = is_key (key_if_seen (fields_of d) (sees (database_of_declaration d) id)) k

-- the same of the declaration of this number: the entries of the declarations of these rows over these documents
abbrev pub is_due : Documents → List Row → Entries
is_due sees decls declaration k id = is_due_by sees (declaration_at decls declaration) k id

-- the rows are these entries and no others, each once
pub record AreEntriesOf (due : Entries) (rows : List Row) : Type 0 where
  pub laid : AreEntryRows rows
  pub exact : (declaration : ℤ) (k id : List ℕ) → has_entry rows declaration k id ≡ due declaration k id

-- The rows of indexes are those of these declarations over these documents: each index that is declared has one row, which says its
-- fields, and there is an entry exactly where an index is declared in whose database a document is seen that has this key in it.
pub record AreIndexed (declares : Declarations) (sees : Documents) (trees : Trees) : Type 0 where
  pub decls : AreDeclarationRows (trees decls_tree)
  pub declared : (db : ℤ) (design name : List ℕ) → declared_by (trees decls_tree) db design name ≡ declares db design name
  pub entries : AreEntriesOf (is_due sees (trees decls_tree)) (trees entries_tree)

-- the rows of indexes are those of what is stored beside them
abbrev pub IsIndexed : Trees → Type 0
IsIndexed trees = AreIndexed (declares_in trees) (sees_in trees) trees

-- ---- steps within a change

-- of this declaration the document of this id has this key now, or none
abbrev pub with_key : Entries → ℤ → List ℕ → Option (List ℕ) → Entries
with_key due declaration id key n k i = if int_eq n declaration && bytes_eq i id then is_key key k else due n k i

-- while the declarations of some rows are left over documents as they were, those of the others are over documents as they are now
abbrev pub is_due_while : List Row → Documents → Documents → List Row → Entries
is_due_while left before now decls n k id = if list_any (has_number n) left then is_due before decls n k id else is_due now decls n k id

-- the declarations of these numbers have no entries
abbrev pub without_numbers : Entries → List ℤ → Entries
without_numbers due numbers n k id = due n k id && not (list_any (int_eq n) numbers)
