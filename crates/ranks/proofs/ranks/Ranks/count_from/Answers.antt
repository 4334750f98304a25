use Rattle.std.proofs.Common.{◌≡◌, ◌<◌, ◌+◌, ℕ, List, [], get_or, length, ap, ◌∙◌, arith}
use Rattle.ranks.specs.Counts.{before_of}
use Rattle.ranks.proofs.Segments.{next_total, same_at}
use Rattle.ranks.proofs.ranks.Ranks.count_from.Goals as goal

pub returns-clause-count : goal.returns-clause-count
returns-clause-count c =
    let same : c.self.inside.segments.items ≡ c.args.self.now.segments = ap (λ r. r.segments) c.self.view_is in
    let lt : c.args.i < length c.self.inside.segments.items = rw same c.requires in
    let first : c.index.result.now ≡ get_or c.args.self.now.segments c.args.i ([], 0) = c.index.ensures ∙ same_at _ _ _ lt ∙ ap (λ ss. get_or ss c.args.i ([], 0)) same in
    ap (λ (s : List ℕ × ℕ). s.1) first

pub returns-clause-within : goal.returns-clause-within
returns-clause-within c =
    let same : c.self.inside.segments.items ≡ c.args.self.now.segments = ap (λ r. r.segments) c.self.view_is in
    let lt : c.args.i < length c.self.inside.segments.items = rw same c.requires in
    let first : c.index.result.now ≡ get_or c.args.self.now.segments c.args.i ([], 0) = c.index.ensures ∙ same_at _ _ _ lt ∙ ap (λ ss. get_or ss c.args.i ([], 0)) same in
    let count = ap (λ (s : List ℕ × ℕ). s.1) first in
    let there = ap (λ r. before_of r.head r.segments c.args.i + (get_or {A = List ℕ × ℕ} r.segments c.args.i ([], 0)).1) c.self.view_is in
    let total = ap (λ r. r.total) c.self.view_is in
    omega (arith, next_total c.self.inside.head c.self.inside.segments.items c.args.i lt, there, count, total, c.self.invariant.1)

pub returns-clause-fits : goal.returns-clause-fits
returns-clause-fits c = let total = ap (λ r. r.total) c.self.view_is in omega (arith, total, c.self.invariant.2)
