use Rattle.std.proofs.Common.{◌≡◌, map, string_bytes}
use Rattle.auth.proofs.RoleLemmas.{roles_of_pieces}
use Rattle.auth.proofs.roles.roles_in.Given as goal

-- the roles so far are those of the pieces so far
abbrev pub invariant-loop-piece : goal.invariant-loop-piece
invariant-loop-piece l = map string_bytes l.roles.items ≡ roles_of_pieces (map (λ x. x.now) l.yielded)
