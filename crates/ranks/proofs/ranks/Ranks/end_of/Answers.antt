use Rattle.std.proofs.Common.{◌≡◌, ◌<◌, length, ap, refl, arith}
use Rattle.ranks.proofs.Segments.{rank_under}
use Rattle.ranks.proofs.ranks.Ranks.end_of.Goals as goal

pub returns : goal.returns
returns c keys t =
    let place = c.place_of-place.result in
    let lt : place < length c.args.self.now.segments = omega (arith, ap (λ r. length r.segments) c.self.view_is, c.len.ensures, c.self.inside.segments.ok.0) in
    rw (c.start.ensures, c.before-2.ensures) (rank_under _ c.args.key.now keys _ place _ t c.place_of-place.ensures.lies lt refl)
