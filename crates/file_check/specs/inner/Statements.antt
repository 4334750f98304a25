-- The statements of a walk over the rows of a table: one shows the first row, the other the first one behind a number.
-- This server's own: the texts of the statements.
use Rattle.std.specs.Prelude.{ℕ, List, codes}
use Rattle.file_check.specs.declared.indexes.indexed.Indexed.{Indexed}
use Rattle.file_check.specs.declared.indexes.indexed.Indexed.TheVariants as indexed
use Rattle.file_check.specs.declared.layout.checked.Checked.{Checked}
use Rattle.file_check.specs.declared.layout.checked.Checked.TheVariants as checked

-- ---- all columns of a row

-- the first row of a table
abbrev pub first_statement : Checked → List ℕ
first_statement checked.Databases = codes "SELECT num, NULL, name, sec, seq FROM dbs ORDER BY num LIMIT 1"
first_statement checked.Documents = codes "SELECT rowid, db, id, seq, winner, del FROM docs ORDER BY rowid LIMIT 1"
first_statement checked.Revisions = codes "SELECT rowid, db, id, n, hash, parent, held, del, body FROM revs ORDER BY rowid LIMIT 1"
first_statement checked.Locals = codes "SELECT rowid, db, id, n, body FROM locals ORDER BY rowid LIMIT 1"

-- the first one behind the number that is its parameter
abbrev pub behind_statement : Checked → List ℕ
behind_statement checked.Databases = codes "SELECT num, NULL, name, sec, seq FROM dbs WHERE num > ?1 ORDER BY num LIMIT 1"
behind_statement checked.Documents = codes "SELECT rowid, db, id, seq, winner, del FROM docs WHERE rowid > ?1 ORDER BY rowid LIMIT 1"
behind_statement checked.Revisions = codes "SELECT rowid, db, id, n, hash, parent, held, del, body FROM revs WHERE rowid > ?1 ORDER BY rowid LIMIT 1"
behind_statement checked.Locals = codes "SELECT rowid, db, id, n, body FROM locals WHERE rowid > ?1 ORDER BY rowid LIMIT 1"

-- ---- what the check of indexes looks at

-- of the first row of a table
abbrev pub first_indexed : Indexed → List ℕ
first_indexed indexed.Declarations = codes "SELECT num, db, ddoc, name, fields FROM decls ORDER BY num LIMIT 1"
first_indexed indexed.Documents = codes "SELECT rowid, db, id FROM docs ORDER BY rowid LIMIT 1"
first_indexed indexed.Entries = codes "SELECT rowid, decl, k, id FROM entries ORDER BY rowid LIMIT 1"

-- of the first one behind the number that is its parameter
abbrev pub behind_indexed : Indexed → List ℕ
behind_indexed indexed.Declarations = codes "SELECT num, db, ddoc, name, fields FROM decls WHERE num > ?1 ORDER BY num LIMIT 1"
behind_indexed indexed.Documents = codes "SELECT rowid, db, id FROM docs WHERE rowid > ?1 ORDER BY rowid LIMIT 1"
behind_indexed indexed.Entries = codes "SELECT rowid, decl, k, id FROM entries WHERE rowid > ?1 ORDER BY rowid LIMIT 1"
