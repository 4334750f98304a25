use Rattle.std.proofs.Common.{◌≡◌, ◌<◌, ◌+◌, length, refl, ap, ◌∙◌, arith}
use Rattle.ranks.proofs.Segments.{before_first, before_step}
use Rattle.ranks.proofs.ranks.Ranks.first_place_behind.Goals as goal

pub loop-i-init : goal.loop-i-init
loop-i-init c = ap (λ r. r.head) c.self.view_is ∙ before_first _ _

pub overflow_add-before : goal.overflow_add-before
overflow_add-before c = omega (arith, c.loop-i.invariant, c.count_from-before.ensures.within, c.count_from-before.ensures.fits)

pub loop-i-preserved : goal.loop-i-preserved
loop-i-preserved c =
    let len : length c.args.self.now.segments ≡ c.len-i-end.result = omega (arith, ap (λ r. length r.segments) c.self.view_is, c.len-i-end.ensures, c.self.inside.segments.ok.0) in
    let lt : c.loop-i.i < length c.args.self.now.segments = omega (arith, len) in
    let step = before_step c.args.self.now.head c.args.self.now.segments c.loop-i.i (c.loop-i.i + 1) lt refl in
    omega (arith, step, c.loop-i.invariant, c.count_from-before.ensures.count)
