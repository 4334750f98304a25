use Rattle.std.proofs.Common.{◌≡◌, ◌++◌, drop, map, string_bytes}
use Rattle.repl.specs.inner.Joined.{after_commas}
use Rattle.repl.proofs.calls.push_roles.Given as goal

abbrev pub invariant-loop-role : goal.invariant-loop-role
invariant-loop-role l =
    string_bytes l.text ++ after_commas (map string_bytes (drop l.role-index l.roles)) ≡ string_bytes l.fn.text ++ after_commas (map string_bytes l.roles)
