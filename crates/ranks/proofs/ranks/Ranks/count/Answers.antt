use Rattle.std.proofs.Common.{ap, arith}
use Rattle.ranks.proofs.Segments.{count_total}
use Rattle.ranks.proofs.ranks.Ranks.count.Goals as goal

pub returns-then-place-eq0-clause-within : goal.returns-then-place-eq0-clause-within
returns-then-place-eq0-clause-within c =
    let most = count_total c.self.inside.head c.self.inside.segments.items 0 in
    let same = ap (λ r. r.total) c.self.view_is in
    omega (arith, most, same, c.self.invariant.1)

pub returns-then-place-eq0-clause-fits : goal.returns-then-place-eq0-clause-fits
returns-then-place-eq0-clause-fits c = let total = ap (λ r. r.total) c.self.view_is in omega (arith, total, c.self.invariant.2)
