use Rattle.std.proofs.Common.{◌≡◌, ◌++◌, map, drop}
use Rattle.couch_http.specs.Message.{header_field}
use Rattle.api.specs.Asking.{pair_of}
use Rattle.api.proofs.asking.pairs.Given as goal

abbrev pub invariant-loop-header : goal.invariant-loop-header
invariant-loop-header l =
    map (λ p. (p.0.now, p.1.now)) l.pairs.items ++ map pair_of (map header_field (drop l.header-index l.headers)) ≡ map pair_of (map header_field l.headers)
