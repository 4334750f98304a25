use Rattle.std.proofs.Common.{◌≡◌, ◌<◌, ◌+◌, length, refl, ap, ◌∙◌, arith}
use Rattle.ranks.specs.Counts.{total_of}
use Rattle.ranks.proofs.Segments.{before_first, before_step, last_total}
use Rattle.ranks.proofs.ranks.Ranks.before.Goals as goal

pub loop-i-init : goal.loop-i-init
loop-i-init c = ap (λ r. r.head) c.self.view_is ∙ before_first _ _

pub overflow_add-before : goal.overflow_add-before
overflow_add-before c = omega (arith, c.loop-i.invariant, c.count_from-before.ensures.within, c.count_from-before.ensures.fits)

pub loop-i-preserved : goal.loop-i-preserved
loop-i-preserved c =
    let lt : c.loop-i.i < length c.args.self.now.segments = omega arith in
    let step = before_step c.args.self.now.head c.args.self.now.segments c.loop-i.i (c.loop-i.i + 1) lt refl in
    omega (arith, step, c.loop-i.invariant, c.count_from-before.ensures.count)

pub returns-then-place-len : goal.returns-then-place-len
returns-then-place-len c =
    let same : c.args.place ≡ length c.args.self.now.segments = omega (arith, ap (λ r. length r.segments) c.self.view_is, c.len.ensures, c.self.inside.segments.ok.0) in
    let total = ap (λ r. r.total) c.self.view_is in
    let sum = ap (λ r. total_of r.head r.segments) c.self.view_is in
    omega (arith, last_total c.args.self.now.head c.args.self.now.segments c.args.place same, c.count.ensures.count, total, sum, c.self.invariant.1)
