use Rattle.std.proofs.Common.{◌≡◌, ◌<◌, ◌-◌, get_or, set, true, sym, ap, subst, ◌∙◌, arith}
use Rattle.ranks.specs.Counts.{Ascends, LiesIn, count_of, is_below, segments_cut, start_of, total_of}
use Rattle.ranks.proofs.Segments.{ascends_split, cut_at, head_cut_at, lies_within, total_split}
use Rattle.ranks.proofs.ranks.Ranks.cut.Goals as goal

pub count-requires : goal.count-requires
count-requires c = lies_within _ _ _ c.requires.lies

pub insert-requires : goal.insert-requires
insert-requires c =
    let same : c.self.inside.segments.items ≡ c.args.self.now.segments = ap (λ r. r.segments) c.self.view_is in
    let lies = subst (λ ss. LiesIn c.args.key ss c.args.place) (sym same) c.requires.lies in
    let le = lies_within c.args.key c.self.inside.segments.items c.args.place lies in
    omega (arith, le, c.self.inside.segments.ok.0)

pub index_mut-requires : goal.index_mut-requires
index_mut-requires c =
    let same : c.self.inside.segments.items ≡ c.args.self.now.segments = ap (λ r. r.segments) c.self.view_is in
    let lies = subst (λ ss. LiesIn c.args.key ss c.args.place) (sym same) c.requires.lies in
    let le = lies_within c.args.key c.self.inside.segments.items c.args.place lies in
    omega (arith, le, c.in_ok-insert.ensures.len, c.self.inside.segments.ok.0)

pub invariant_of-self-else-place-eq0 : goal.invariant_of-self-else-place-eq0
invariant_of-self-else-place-eq0 c =
    let same : c.self.inside.segments.items ≡ c.args.self.now.segments = ap (λ r. r.segments) c.self.view_is in
    let lies = subst (λ ss. LiesIn c.args.key ss c.args.place) (sym same) c.requires.lies in
    let le = lies_within c.args.key c.self.inside.segments.items c.args.place lies in
    let some : 0 < c.args.place = omega arith in
    let rest = c.count.result - c.args.count in
    let place = c.index_mut.ensures.value ∙ ap (λ ss. get_or ss (c.args.place - 1) c.index_mut.result.now) c.in_ok-insert.ensures.items in
    let is = ap (λ ss. set ss (c.args.place - 1) (c.index_mut.result.now.0, c.args.count)) c.in_ok-insert.ensures.items ∙ cut_at c.self.inside.segments.items c.args.place c.args.key c.args.count rest c.index_mut.result.now some le place in
    let above = subst (λ ss. is_below (start_of ss c.args.place) c.args.key ≡ true) (sym same) c.requires.above in
    let old : c.count.result ≡ count_of c.self.inside.head c.self.inside.segments.items c.args.place = c.count.ensures.count ∙ sym (ap (λ r. count_of r.head r.segments c.args.place) c.self.view_is) in
    let total = total_split c.self.inside.head c.args.key c.self.inside.segments.items c.args.place c.args.count rest le (omega (arith, old, c.requires.some, c.count.ensures.count)) in
    let head = ap (λ h. total_of h (segments_cut c.self.inside.segments.items c.args.place c.args.key c.args.count rest)) (head_cut_at c.self.inside.head c.args.place c.args.count some) in
    let there = ap (total_of c.self.inside.head) is in
    (subst Ascends (sym is) (ascends_split c.args.key _ c.args.place c.args.count rest lies above c.self.invariant.0), omega (arith, total, head, there, c.self.invariant.1), c.self.invariant.2)

pub returns-else-place-eq0-clause-segments : goal.returns-else-place-eq0-clause-segments
returns-else-place-eq0-clause-segments c =
    let same : c.self.inside.segments.items ≡ c.args.self.now.segments = ap (λ r. r.segments) c.self.view_is in
    let lies = subst (λ ss. LiesIn c.args.key ss c.args.place) (sym same) c.requires.lies in
    let le = lies_within c.args.key c.self.inside.segments.items c.args.place lies in
    let some : 0 < c.args.place = omega arith in
    let rest = c.count.result - c.args.count in
    let place = c.index_mut.ensures.value ∙ ap (λ ss. get_or ss (c.args.place - 1) c.index_mut.result.now) c.in_ok-insert.ensures.items in
    let is = ap (λ ss. set ss (c.args.place - 1) (c.index_mut.result.now.0, c.args.count)) c.in_ok-insert.ensures.items ∙ cut_at c.self.inside.segments.items c.args.place c.args.key c.args.count rest c.index_mut.result.now some le place in
    is ∙ ap (λ ss. segments_cut ss c.args.place c.args.key c.args.count rest) same ∙ ap (λ n. segments_cut c.args.self.now.segments c.args.place c.args.key c.args.count (n - c.args.count)) c.count.ensures.count
