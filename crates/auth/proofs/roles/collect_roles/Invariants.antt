use Rattle.std.proofs.Common.{◌≡◌, ◌||◌, ℕ, List, map, drop, string_bytes}
use Rattle.std.specs.BTreeSet.{contains_text}
use Rattle.auth.specs.Roles.{is_among}
use Rattle.auth.proofs.roles.collect_roles.Given as goal

-- what is in the set or to come is among the roles
abbrev pub invariant-loop-role : goal.invariant-loop-role
invariant-loop-role l = (q : List ℕ) → contains_text l.known q || is_among q (map string_bytes (drop l.role-index l.roles)) ≡ is_among q (map string_bytes l.roles)
