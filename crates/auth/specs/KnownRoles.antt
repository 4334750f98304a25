-- The roles of a caller as a set, in which they are looked up.
-- This crate's own: it ties the set to the list of roles.
use Rattle.std.specs.Prelude.{◌≡◌, ℕ, List, String, string_bytes}
use Rattle.std.specs.BTreeSet.{BTreeSet, contains_by}
use Rattle.std.specs.Cmp.Lexicographic.{slice_cmp}
use Rattle.std.specs.Ordering.{nat_cmp}
use Rattle.std.specs.declared.alloc.Global.{Global}
use Rattle.auth.specs.Roles.{is_among}

-- what is in the set is among the roles, and the other way round
abbrev pub HasRoles : BTreeSet (String Global) → List (List ℕ) → Type 0
HasRoles known roles = (role : List ℕ) → contains_by (λ k. slice_cmp nat_cmp role (string_bytes k)) known ≡ is_among role roles
