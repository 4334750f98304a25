-- Revisions of a document: a number and a hash, their text `N-hash`, and their order.
-- The CouchDB manual decides (api/document/common, "Revision", and replication/conflicts); the bounds on the number and on the hash are this server's own.
use Rattle.std.specs.Prelude.{ℕ, ◌==◌, Bool, ◌&&◌, if◌then◌else◌, List, ◌++◌, length, slice_index, nat_le, codes, Option, Some, None, refl}
use Rattle.std.specs.List.{list_all, before_first, after_first}
use Rattle.std.specs.Char.{is_ascii_alphanumeric}
use Rattle.std.specs.Str.{all_ascii_digits}
use Rattle.std.specs.Str.Parse.{digits_value}
use Rattle.std.specs.Fmt.{decimal}
use Rattle.std.specs.Coded.{Coded, code_by, coded×, coded_ℕ, coded_list}
use Rattle.std.specs.declared.cmp.Ordering.{Ordering}
use Rattle.std.specs.Ordering.{ordering_then, nat_cmp}
use Rattle.std.specs.Cmp.Lexicographic.{slice_cmp}

-- a revision: its number and its hash
pub record Revision : Type 0 where
  -- how many edits lead to it, itself counted
  pub number : ℕ
  -- what tells it from the other revisions of its number
  pub hash : List ℕ

-- the greatest number of a revision
abbrev pub greatest_number : ℕ
greatest_number = 2147483647

-- 1 to 64 ASCII letters or digits
abbrev pub is_hash : List ℕ → Bool
is_hash hash = nat_le 1 (length hash) && nat_le (length hash) 64 && list_all is_ascii_alphanumeric hash

-- a revision that may stand in a document
abbrev pub is_revision : Revision → Bool
is_revision r = nat_le 1 r.number && nat_le r.number greatest_number && is_hash r.hash

-- the revision of a number and a hash, where they make one
abbrev pub revision_of : ℕ → List ℕ → Option Revision
revision_of number hash =
    if is_revision (record { number = number; hash = hash }) then Some (record { number = number; hash = hash }) else None

-- the text `N-hash`, with N in decimal
abbrev pub text_of : Revision → List ℕ
text_of r = decimal r.number ++ codes "-" ++ r.hash

-- a numeral of at most the greatest number, whose first digit is 1 (49 in ASCII) or more
abbrev pub is_number_text : List ℕ → Bool
is_number_text digits =
    nat_le 49 (slice_index digits 0) && all_ascii_digits digits
    && nat_le (digits_value 10 digits) greatest_number

-- the number that such a numeral writes
abbrev pub number_read : List ℕ → Option ℕ
number_read digits = if is_number_text digits then Some (digits_value 10 digits) else None

-- `-`
abbrev pub is_dash : ℕ → Bool
is_dash b = b == 45

-- the revision that a text spells: a number, the first dash, and a hash
abbrev pub revision_read : List ℕ → Option Revision
revision_read text =
    let digits = before_first is_dash text in
    let hash = after_first is_dash text in
    if is_number_text digits && is_hash hash then Some (record { number = digits_value 10 digits; hash = hash })
    else None

-- by number, and then by the bytes of the hash
abbrev pub revision_cmp : Revision → Revision → Ordering
revision_cmp r s = ordering_then (nat_cmp r.number s.number) (slice_cmp nat_cmp r.hash s.hash)

-- a revision is stored as the pair of its fields
abbrev pub revision_code : Coded Revision
revision_code = code_by (ℕ × List ℕ) (coded× coded_ℕ (coded_list coded_ℕ)) (λ r. (r.number, r.hash)) (λ p. record { number = p.0; hash = p.1 }) (λ _. refl)
