-- The tables that hold the databases, and the schema that they make.
-- This server's own layout: ids and names are bytes, values are canonical text.
use Rattle.std.specs.Prelude.{Bool, true, false, ℕ, List, [], ◌∷◌, Option, Some, None, codes}
use Rattle.sqlite_value.specs.declared.value.Value.TheVariants.{Null}
use Rattle.sqlite_value.specs.declared.keys.Collation.TheVariants.{Binary}
use Rattle.sqlite_value.specs.Keys.{plain}
use Rattle.sqlite_schema.specs.declared.schema.Column.{Column}
use Rattle.sqlite_schema.specs.declared.schema.Kind.{Kind}
use Rattle.sqlite_schema.specs.declared.schema.Kind.TheVariants.{Integer, Text, Blob}
use Rattle.sqlite_schema.specs.declared.schema.Schema.{Schema}
use Rattle.sqlite_schema.specs.declared.schema.Table.{Table}
use Rattle.sqlite_catalog.specs.Change.{created}

-- a column of a STRICT table
abbrev pub strict_column : List ℕ → Kind → Bool → Column
strict_column name kind not_null = record { name = name; kind = kind; is_strict = true; not_null = not_null; default = Null; collation = Binary }

-- a value of this kind in each row
abbrev pub required_column : List ℕ → Kind → Column
required_column name kind = strict_column name kind true

-- a value of this kind, or NULL
abbrev pub optional_column : List ℕ → Kind → Column
optional_column name kind = strict_column name kind false

-- a table with these columns; the places of its unique keys count the rowid as 0
abbrev pub table_of : List ℕ → List Column → Option ℕ → List ℕ → List (List ℕ) → Table
table_of name columns key primary uniques =
    record {
      name = name;
      tree = 0;
      columns = columns;
      key = key;
      primary = primary;
      uniques = uniques;
      orders = Rattle.std.specs.Prelude.map (λ _. plain) uniques;
      checks = [];
      references = [];
      computed = [];
      stamps = record { places = []; terms = []; formats = [] };
      is_counted = false;
    }

-- the version of the layout, in one row
abbrev pub meta : Table
meta = table_of (codes "meta") (required_column (codes "version") Integer ∷ []) None [] []

-- the databases
abbrev pub dbs : Table
dbs =
    table_of (codes "dbs")
    (optional_column (codes "num") Integer ∷ required_column (codes "name") Blob ∷ required_column (codes "sec") Text ∷ required_column (codes "seq") Integer ∷ [])
    (Some 0) (0 ∷ []) ((2 ∷ []) ∷ [])

-- the documents of each database
abbrev pub docs : Table
docs =
    table_of (codes "docs")
    (required_column (codes "db") Integer ∷ required_column (codes "id") Blob ∷ required_column (codes "seq") Integer ∷ required_column (codes "winner") Text ∷ required_column (codes "del") Integer ∷ [])
    None (1 ∷ 2 ∷ []) ((1 ∷ 2 ∷ []) ∷ (1 ∷ 3 ∷ []) ∷ [])

-- the known revisions of each document
abbrev pub revs : Table
revs =
    table_of (codes "revs")
    (required_column (codes "db") Integer ∷ required_column (codes "id") Blob ∷ required_column (codes "n") Integer ∷ required_column (codes "hash") Text ∷ optional_column (codes "parent") Text
    ∷ required_column (codes "held") Integer ∷ required_column (codes "del") Integer ∷ optional_column (codes "body") Text ∷ [])
    None (1 ∷ 2 ∷ 3 ∷ 4 ∷ []) ((1 ∷ 2 ∷ 3 ∷ 4 ∷ []) ∷ [])

-- the local documents of each database
abbrev pub locals : Table
locals =
    table_of (codes "locals")
    (required_column (codes "db") Integer ∷ required_column (codes "id") Blob ∷ required_column (codes "n") Integer ∷ required_column (codes "body") Text ∷ [])
    None (1 ∷ 2 ∷ []) ((1 ∷ 2 ∷ []) ∷ [])

-- the indexes that design documents declare, each with its fields
abbrev pub decls : Table
decls =
    table_of (codes "decls")
    (optional_column (codes "num") Integer ∷ required_column (codes "db") Integer ∷ required_column (codes "ddoc") Blob ∷ required_column (codes "name") Blob ∷ required_column (codes "fields") Text ∷ [])
    (Some 0) (0 ∷ []) ((2 ∷ 3 ∷ 4 ∷ []) ∷ [])

-- the entries of each index
abbrev pub entries : Table
entries =
    table_of (codes "entries")
    (required_column (codes "decl") Integer ∷ required_column (codes "k") Blob ∷ required_column (codes "id") Blob ∷ [])
    None (1 ∷ 2 ∷ 3 ∷ []) ((1 ∷ 2 ∷ 3 ∷ []) ∷ [])

-- no table at all
abbrev pub no_schema : Schema
no_schema = record { tables = []; indexes = []; views = [] }

-- the table `meta` alone
abbrev pub schema_1 : Schema
schema_1 = created no_schema meta

-- the tables up to `dbs`
abbrev pub schema_2 : Schema
schema_2 = created schema_1 dbs

-- the tables up to `docs`
abbrev pub schema_3 : Schema
schema_3 = created schema_2 docs

-- the tables up to `revs`
abbrev pub schema_4 : Schema
schema_4 = created schema_3 revs

-- the tables up to `locals`
abbrev pub schema_5 : Schema
schema_5 = created schema_4 locals

-- the tables up to `decls`
abbrev pub schema_6 : Schema
schema_6 = created schema_5 decls

-- the whole schema
abbrev pub schema : Schema
schema = created schema_6 entries

-- ---- where the rows of each table are kept

-- the tree of the row of the version
abbrev pub meta_tree : ℕ
meta_tree = 0

-- the tree of the rows of databases
abbrev pub dbs_tree : ℕ
dbs_tree = 1

-- the tree of the rows of documents
abbrev pub docs_tree : ℕ
docs_tree = 3

-- the tree of the rows of revisions
abbrev pub revs_tree : ℕ
revs_tree = 6

-- the tree of the rows of local documents
abbrev pub locals_tree : ℕ
locals_tree = 8

-- the tree of the rows of indexes
abbrev pub decls_tree : ℕ
decls_tree = 10

-- the tree of the entries of indexes
abbrev pub entries_tree : ℕ
entries_tree = 12

-- the tables at their places in the schema
abbrev pub meta_table : Table
meta_table = record meta { tree = meta_tree }

abbrev pub dbs_table : Table
dbs_table = record dbs { tree = dbs_tree }

abbrev pub docs_table : Table
docs_table = record docs { tree = docs_tree }

abbrev pub revs_table : Table
revs_table = record revs { tree = revs_tree }

abbrev pub locals_table : Table
locals_table = record locals { tree = locals_tree }

abbrev pub decls_table : Table
decls_table = record decls { tree = decls_tree }

abbrev pub entries_table : Table
entries_table = record entries { tree = entries_tree }
