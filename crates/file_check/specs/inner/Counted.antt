-- The statements that count the rows of a table.
-- This server's own: the texts of the statements, and the trees of `Schema` of `tables`.
use Rattle.std.specs.Prelude.{◌≡◌, ℕ, List, codes}
use Rattle.sqlite.specs.Effect.{Database}
use Rattle.tables.specs.Schema.{schema, dbs_tree, docs_tree, revs_tree, locals_tree, decls_tree, entries_tree}
use Rattle.file_check.specs.declared.counting.Counted.{Counted}
use Rattle.file_check.specs.declared.counting.Counted.TheVariants.{Databases, Documents, Revisions, Locals, Declarations, Entries}

-- the tables have this server's schema
abbrev pub HasOurSchema : Database → Type 0
HasOurSchema db = db.schema ≡ schema

-- the tree of a table's rows
abbrev pub counted_tree : Counted → ℕ
counted_tree Databases = dbs_tree
counted_tree Documents = docs_tree
counted_tree Revisions = revs_tree
counted_tree Locals = locals_tree
counted_tree Declarations = decls_tree
counted_tree Entries = entries_tree

-- the statement that counts them
abbrev pub count_statement : Counted → List ℕ
count_statement Databases = codes "SELECT count(*) FROM dbs"
count_statement Documents = codes "SELECT count(*) FROM docs"
count_statement Revisions = codes "SELECT count(*) FROM revs"
count_statement Locals = codes "SELECT count(*) FROM locals"
count_statement Declarations = codes "SELECT count(*) FROM decls"
count_statement Entries = codes "SELECT count(*) FROM entries"
