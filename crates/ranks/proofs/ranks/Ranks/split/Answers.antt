use Rattle.std.proofs.Common.{◌≤◌, ◌-◌, ap, ◌∙◌, arith}
use Rattle.ranks.specs.Counts.{count_of, segments_cut}
use Rattle.ranks.proofs.Segments.{split_to}
use Rattle.ranks.proofs.ranks.Ranks.split.Goals as goal

pub returns-clause-ranks : goal.returns-clause-ranks
returns-clause-ranks c keys t e =
    let count = c.args.rank - c.before-before.result in
    let le : c.before-before.result ≤ c.args.rank = omega (arith, c.if-rank-before.false) in
    let key = ap (λ k. segments_cut c.args.self.now.segments c.place_of-place.result k count (count_of c.args.self.now.head c.args.self.now.segments c.place_of-place.result - count)) c.in_ok-first.ensures in
    split_to c.args.self.now c.cut.new.self c.args.key.now keys c.place_of-place.result count c.args.rank c.in_ok-cut.ensures.head (c.in_ok-cut.ensures.segments ∙ key) c.place_of-place.ensures.within
    (omega (arith, c.if-count.false, c.count.ensures.count)) (omega (arith, le, c.before-before.ensures)) e t
