use Rattle.std.proofs.Common.{◌≡◌, ◌<◌, ◌+◌, length, refl, ap, arith}
use Rattle.ranks.specs.Counts.{before_of}
use Rattle.ranks.proofs.Segments.{before_first, before_step, before_total, place_next}
use Rattle.ranks.proofs.ranks.Ranks.last_place_before.Goals as goal

pub loop-i-init : goal.loop-i-init
loop-i-init c = record { before = refl; next = omega (arith, ap (λ r. r.head) c.self.view_is, before_first c.args.self.now.head c.args.self.now.segments); most = omega arith }

pub overflow_add-next : goal.overflow_add-next
overflow_add-next c = omega (arith, c.loop-i.invariant.next, before_total c.self.inside.head c.self.inside.segments.items c.loop-i.i, ap (λ r. before_of r.head r.segments c.loop-i.i) c.self.view_is, c.self.invariant.1, c.self.invariant.2)

pub loop-i-preserved : goal.loop-i-preserved
loop-i-preserved c =
    let len : length c.args.self.now.segments ≡ c.len-i-end.result = omega (arith, ap (λ r. length r.segments) c.self.view_is, c.len-i-end.ensures, c.self.inside.segments.ok.0) in
    let lt : c.loop-i.i < length c.args.self.now.segments = omega (arith, len) in
    let step = before_step c.args.self.now.head c.args.self.now.segments c.loop-i.i (c.loop-i.i + 1) lt refl in
    let next = place_next c.args.self.now.head c.args.self.now.segments c.loop-i.i (c.loop-i.i + 1) refl in
    record { before = omega (arith, next, c.loop-i.invariant.next); next = omega (arith, step, c.loop-i.invariant.next, c.count_from-count.ensures.count); most = c.if-rank-next.false }
