-- Which texts may name a database.
-- CouchDB manual, api/database/common, "PUT /{db}"; the limit of 64 bytes and the missing `/` are this server's own.
use Rattle.std.specs.Prelude.{ℕ, Bool, ◌&&◌, ◌||◌, ◌==◌, List, length, slice_index, nat_le}
use Rattle.std.specs.List.{list_all}

-- an ASCII letter from a to z
abbrev pub is_lower_case : ℕ → Bool
is_lower_case b = nat_le 97 b && nat_le b 122

-- an ASCII digit
abbrev pub is_digit : ℕ → Bool
is_digit b = nat_le 48 b && nat_le b 57

-- one of `_ $ ( ) + -`
abbrev pub is_sign : ℕ → Bool
is_sign b = b == 95 || b == 36 || b == 40 || b == 41 || b == 43 || b == 45

-- a byte that a name may have
abbrev pub is_name_byte : ℕ → Bool
is_name_byte b = is_lower_case b || is_digit b || is_sign b

-- a lower-case letter and what may follow it, 64 bytes at most
abbrev pub is_database_name : List ℕ → Bool
is_database_name text = is_lower_case (slice_index text 0) && nat_le (length text) 64 && list_all is_name_byte text
