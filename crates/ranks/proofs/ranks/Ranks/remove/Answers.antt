use Rattle.std.proofs.Common.{ap, ◌-◌, arith}
use Rattle.ranks.proofs.Segments.{removed_at, removed_to}
use Rattle.ranks.proofs.ranks.Ranks.remove.Goals as goal

pub recount-requires-clause-fits : goal.recount-requires-clause-fits
recount-requires-clause-fits c = omega (arith, c.count-count.ensures.count, c.count-count.ensures.fits)

pub returns-then-count-gt0 : goal.returns-then-count-gt0
returns-then-count-gt0 c keys t = removed_to c.args.self.now c.recount.new.self c.args.key.now keys c.place_of-place.result (c.count-count.result - 1) c.recount.ensures.head c.recount.ensures.segments (ap (λ n. n - 1) c.count-count.ensures.count) c.place_of-place.ensures.lies t

pub returns-else-count-gt0 : goal.returns-else-count-gt0
returns-else-count-gt0 c keys t = (let some = (removed_at _ c.args.key.now keys _ c.place_of-place.result t c.place_of-place.ensures.lies).0 in absurd (omega (arith, some, c.count-count.ensures.count)))
