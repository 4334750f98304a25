use Rattle.std.proofs.Common.{ap, ◌+◌}
use Rattle.ranks.proofs.Segments.{added_to}
use Rattle.ranks.proofs.ranks.Ranks.add.Goals as goal

pub returns : goal.returns
returns c keys t = added_to c.args.self.now c.recount.new.self c.args.key.now keys c.place_of-place.result (c.count-count.result + 1) c.recount.ensures.head c.recount.ensures.segments (ap (λ n. n + 1) c.count-count.ensures.count) c.place_of-place.ensures.lies t
