-- Which of the tables a schema has, and which version a file has.
-- This server's own: tables go by their names, and there is one row of the version.
use Rattle.std.specs.Prelude.{Bool, ℕ, ℤ, pos, if◌then◌else◌, List, [], ◌∷◌, codes, is_some}
use Rattle.std.specs.List.{list_all, list_any}
use Rattle.std.specs.Ordering.{int_eq}
use Rattle.sqlite_value.specs.Order.{Row, column}
use Rattle.sqlite_schema.specs.declared.schema.Schema.{Schema}
use Rattle.sqlite_schema.specs.Names.{table_named}
use Rattle.tables.specs.Rows.{whole_in_cell}
use Rattle.tables.specs.declared.meta.FileVersion.{FileVersion}
use Rattle.tables.specs.declared.meta.FileVersion.TheVariants.{First, Second, Other}

abbrev pub table_names : List (List ℕ)
table_names = codes "meta" ∷ codes "dbs" ∷ codes "docs" ∷ codes "revs" ∷ codes "locals" ∷ codes "decls" ∷ codes "entries" ∷ []

abbrev pub has_table : Schema → List ℕ → Bool
has_table schema name = is_some (table_named schema name)

abbrev pub has_all : Schema → Bool
has_all schema = list_all (has_table schema) table_names

abbrev pub has_any : Schema → Bool
has_any schema = list_any (has_table schema) table_names

-- the statement that reads the version
abbrev pub version_text : List ℕ
version_text = codes "SELECT version FROM meta"

-- what a query shows of a row of `meta`
abbrev pub shown_version : Row → Row
shown_version r = column r 1 ∷ []

-- the version of this number
abbrev pub version_numbered : ℤ → FileVersion
version_numbered n = if int_eq n (pos 2) then Second else (if int_eq n (pos 1) then First else Other)

-- the version that is shown, in one row
abbrev pub version_shown : List Row → FileVersion
version_shown [] = Other
version_shown (s ∷ []) = version_numbered (whole_in_cell (column s 0))
version_shown (s ∷ t ∷ more) = Other

-- the version of a file whose `meta` has these rows: it stands in one row
abbrev pub version_in : List Row → FileVersion
version_in [] = Other
version_in (r ∷ []) = version_numbered (whole_in_cell (column r 1))
version_in (r ∷ s ∷ more) = Other
