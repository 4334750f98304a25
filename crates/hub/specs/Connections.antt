-- The connections of a node: which were opened, and what has come of the next request on each that has not ended.
-- RFC 9112, sections 9.3 and 9.6, for how long a connection lasts; the numbers are this project's own.
use Rattle.std.specs.Prelude.{ℕ, refl, ◌+◌, Bool, ◌&&◌, List, [], Option, Some, None, is_some, nat_le, if◌then◌else◌}
use Rattle.std.specs.Coded.{Coded, code_by, coded×, coded_list, coded_ℕ}
use Rattle.std.specs.FinMap.{FinMap, code, empty, get, insert, remove}
use Rattle.std.specs.Ordering.{nat_cmp}

-- the open connections, each with the bytes that begin its next request, and how many were opened
pub record ConnectionTable : Type 0 where
  -- what has come of the next request, on each connection that has not ended
  pub rests : FinMap nat_cmp (List ℕ)
  -- how many were opened: they have the numbers from 1 to this one
  pub opened : ℕ

-- a table is stored as the pair of its fields
abbrev pub table_code : Coded ConnectionTable
table_code =
    code_by (FinMap nat_cmp (List ℕ) × ℕ) (coded× (code coded_ℕ (coded_list coded_ℕ)) coded_ℕ) (λ t. (t.rests, t.opened)) (λ p. record { rests = p.0; opened = p.1 })
    (λ _. refl)

abbrev pub no_connections : ConnectionTable
no_connections = record { rests = empty; opened = 0 }

-- the number was given to a connection
abbrev pub was_opened : ConnectionTable → ℕ → Bool
was_opened table conn = nat_le 1 conn && nat_le conn table.opened

-- what has come of the next request on a connection, and None where it has ended or was never opened
abbrev pub rest_on : ConnectionTable → ℕ → Option (List ℕ)
rest_on table conn = if was_opened table conn then get table.rests conn else None

-- the connection was opened and has not ended
abbrev pub is_open : ConnectionTable → ℕ → Bool
is_open table conn = is_some (rest_on table conn)

-- the number of the next connection
abbrev pub next_connection : ConnectionTable → ℕ
next_connection table = table.opened + 1

-- one more connection, on which nothing has come
abbrev pub with_connection : ConnectionTable → ConnectionTable
with_connection table = record { rests = insert table.rests (next_connection table) []; opened = next_connection table }

-- a connection on which this has come of the next request, or which has ended
abbrev pub with_rest : ConnectionTable → ℕ → Option (List ℕ) → ConnectionTable
with_rest table conn (Some rest) = record table { rests = insert table.rests conn rest }
with_rest table conn None = record table { rests = remove table.rests conn }

-- the connection has ended; a number that was never given changes nothing
abbrev pub without : ConnectionTable → ℕ → ConnectionTable
without table conn = if was_opened table conn then with_rest table conn None else table
