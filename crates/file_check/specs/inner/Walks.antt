-- A walk over the rows of a table by their numbers, one row after another.
-- This server's own: a walk holds one row at a time, so that a check takes memory for no more.
use Rattle.std.specs.Prelude.{◌≡◌, ℤ, int_lt, Bool, true, false, List, find, filter, map, take, Option, Some, None}
use Rattle.std.specs.List.{AllByRecursion}
use Rattle.sqlite_value.specs.Order.{Row}
use Rattle.tables.specs.Rows.{number_of}
use Rattle.file_check.specs.Indexes.{IsFinding}
use Rattle.file_check.specs.declared.finding.Table.{Table}
use Rattle.file_check.specs.declared.indexes.step.Step.{Step}
use Rattle.file_check.specs.declared.indexes.step.Step.TheVariants.{Next, Found, Done}

-- ---- the rows that are still to come

-- the row is behind the last one that was looked at, or none was
abbrev pub is_behind : Option ℤ → Row → Bool
is_behind None r = true
is_behind (Some last) r = int_lt last (number_of r)

-- the next row as a query shows it, if there is one
abbrev pub next_rows : (Row → Row) → Option ℤ → List Row → List Row
next_rows show last rows = take 1 (map show (filter (is_behind last) rows))

-- the rows up to the last one that was looked at are so
abbrev pub AreWalked : (Row → Type 0) → Option ℤ → List Row → Type 0
AreWalked Is last rows = AllByRecursion (λ r. is_behind last r ≡ false → Is r) rows

-- what a look at this row tells: it is so, or it is not
abbrev pub IsRowStep : Table → (Row → Type 0) → Row → Step → Type 0
IsRowStep of Is r (Next n) = (n ≡ number_of r) × Is r
IsRowStep of Is r (Found f) = (f.table ≡ of) × (f.key ≡ number_of r) × (¬ Is r)
IsRowStep of Is r Done = ⊥

-- the same of the next row; or there is none
abbrev pub IsStep : Table → List Row → (Row → Type 0) → Option ℤ → Step → Type 0
IsStep of rows Is last (Next n) = (r : Row) × (find (is_behind last) rows ≡ Some r) × (n ≡ number_of r) × Is r
IsStep of rows Is last (Found f) = IsFinding of rows Is f
IsStep of rows Is last Done = find (is_behind last) rows ≡ None

-- the number of the row of a step, if it is sound
abbrev pub step_number : Step → Option ℤ
step_number (Next n) = Some n
step_number (Found f) = None
step_number Done = None
