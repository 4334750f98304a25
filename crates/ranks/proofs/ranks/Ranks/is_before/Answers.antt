use Rattle.std.proofs.Common.{◌≡◌, ◌<◌, ℕ, List, [], get_or, length, ap, ◌∙◌}
use Rattle.std.specs.Ordering.{is_lt}
use Rattle.ranks.specs.Counts.{is_below}
use Rattle.ranks.proofs.Segments.{same_at}
use Rattle.ranks.proofs.ranks.Ranks.is_before.Goals as goal

pub returns : goal.returns
returns c =
    let same : c.self.inside.segments.items ≡ c.args.self.now.segments = ap (λ r. r.segments) c.self.view_is in
    let lt : c.args.i < length c.self.inside.segments.items = rw same c.requires in
    let first : c.index.result.now ≡ get_or c.args.self.now.segments c.args.i ([], 0) = c.index.ensures ∙ same_at _ _ _ lt ∙ ap (λ ss. get_or ss c.args.i ([], 0)) same in
    c.is_lt.ensures ∙ ap (λ o. is_lt o) c.cmp.ensures ∙ ap (is_below c.args.key.now) (c.as_slice.ensures.value ∙ ap (λ (s : List ℕ × ℕ). s.0) (c.behind-self.view_is ∙ first))
