-- What a row of declarations says that a query shows, and when it is such a row.
-- This server's own layout.
use Rattle.std.specs.Prelude.{◌≡◌, true, ℕ, ℤ, List, length, Ok}
use Rattle.couch_json.specs.Reading.{reading}
use Rattle.couch_json.specs.Value.{Items, array}
use Rattle.couch_json.specs.Value as json
use Rattle.policy.specs.DesignDocuments.{are_paths}
use Rattle.sqlite_value.specs.Order.{Row, column}
use Rattle.sqlite_value.specs.declared.value.Value.{Value}
use Rattle.sqlite_value.specs.declared.value.Value.TheVariants.{Blob, Text}
use Rattle.tables.specs.Rows.{number_of, whole_in_cell}
use Rattle.tables.specs.Shown.{IsWhole}
use Rattle.index.specs.Rows.{fields_in_cell, fields_of}
use Rattle.index.specs.declared.declaration.Declaration.{Declaration}

-- the number of a declaration, and its fields
pub record Declared : Type 0 where
  pub number : ℤ
  pub fields : List (List ℕ)

-- what is read
abbrev pub declared : Declaration → Declared
declared d = record { number = d.number; fields = d.fields.items }

-- what a row says
abbrev pub declared_at : Row → Declared
declared_at r = record { number = number_of r; fields = fields_of r }

-- what a row says that a query shows
abbrev pub declared_shown : Row → Declared
declared_shown s = record { number = whole_in_cell (column s 0); fields = fields_in_cell (column s 2) }

-- the value is a list of paths
abbrev pub IsPathList : json.Value → Type 0
IsPathList v = (vs : Items) × (v ≡ array vs) × (are_paths vs ≡ true)

-- the text of a list of paths
abbrev pub SpellsPaths : Value → Type 0
SpellsPaths v = (text : List ℕ) × (value : json.Value) × (v ≡ Text text) × (reading text ≡ Ok value) × IsPathList value

-- the name of an index
abbrev pub IsName : Value → Type 0
IsName v = (name : List ℕ) × (v ≡ Blob name)

pub record IsShownDeclaration (s : Row) : Type 0 where
  pub width : length s ≡ 3
  pub number : IsWhole (column s 0)
  pub name : IsName (column s 1)
  pub fields : SpellsPaths (column s 2)
