use Rattle.std.proofs.Common.{◌≡◌, map, drop, string_bytes}
use Rattle.auth.specs.Roles.{is_among}
use Rattle.auth.proofs.roles.is_among.Given as goal

-- the texts so far aren't the one looked for
abbrev pub invariant-loop-t : goal.invariant-loop-t
invariant-loop-t l = is_among l.text (map string_bytes (drop l.t-index l.texts)) ≡ is_among l.text (map string_bytes l.texts)
