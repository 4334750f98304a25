use Rattle.std.proofs.Common.{◌≡◌, ◌<◌, ◌≤◌, length, sym, ap, subst, ◌∙◌, arith}
use Rattle.ranks.specs.Counts.{Ascends, count_of, segments_with, total_of}
use Rattle.ranks.proofs.Segments.{ascends_with, head_at, set_at, total_with}
use Rattle.ranks.proofs.ranks.Ranks.recount.Goals as goal

pub invariant_of-self : goal.invariant_of-self
invariant_of-self c =
    let total = total_with c.self.inside.head c.self.inside.segments.items 0 c.args.count (omega arith) in
    let old : c.count-old.result ≡ c.self.inside.head = c.count-old.ensures.count ∙ ap (count_of c.args.self.now.head c.args.self.now.segments) c.if-place-eq0.true ∙ sym (ap (λ r. r.head) c.self.view_is) in
    let same = ap (λ r. r.total) c.self.view_is in
    (c.self.invariant.0, omega (arith, total, old, same, c.self.invariant.1, c.count-old.ensures.within), omega (arith, c.requires.fits, c.count-old.ensures.count, c.count-old.ensures.within, ap (λ r. r.total) c.self.view_is))

pub invariant_of-self-else-place-eq0 : goal.invariant_of-self-else-place-eq0
invariant_of-self-else-place-eq0 c =
    let some : 0 < c.args.place = omega arith in
    let same : c.self.inside.segments.items ≡ c.args.self.now.segments = ap (λ r. r.segments) c.self.view_is in
    let le : c.args.place ≤ length c.self.inside.segments.items = rw same c.requires.within in
    let is = set_at c.self.inside.segments.items c.args.place c.args.count c.index_mut.result.now some le c.index_mut.ensures.value in
    let total = total_with c.self.inside.head c.self.inside.segments.items c.args.place c.args.count le in
    let head = ap (λ h. total_of h (segments_with c.self.inside.segments.items c.args.place c.args.count)) (head_at c.self.inside.head c.args.place c.args.count some) in
    let there = ap (total_of c.self.inside.head) is in
    let old : c.count-old.result ≡ count_of c.self.inside.head c.self.inside.segments.items c.args.place = c.count-old.ensures.count ∙ sym (ap (λ r. count_of r.head r.segments c.args.place) c.self.view_is) in
    let whole = ap (λ r. r.total) c.self.view_is in
    (subst Ascends (sym is) (ascends_with _ c.args.place c.args.count c.self.invariant.0), omega (arith, total, head, there, old, whole, c.self.invariant.1, c.count-old.ensures.within), omega (arith, c.requires.fits, c.count-old.ensures.count, c.count-old.ensures.within, ap (λ r. r.total) c.self.view_is))
