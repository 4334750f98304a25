use Rattle.std.proofs.Common.{◌≡◌, drop, nat_eq}
use Rattle.std.specs.List.{starts_with}
use Rattle.percent_encoding.specs.Iter.{decoded_bytes}
use Rattle.api.proofs.routes.begins_with.Given as goal

-- what is left decides
abbrev pub invariant-loop-wanted : goal.invariant-loop-wanted
invariant-loop-wanted l =
    starts_with nat_eq (decoded_bytes l.decoded) (drop l.wanted-index l.front) ≡ starts_with nat_eq (decoded_bytes l.initial.decoded) l.front
