use Rattle.std.proofs.Common.{◌≡◌, length, sym, ap, subst, ◌∙◌, arith}
use Rattle.ranks.specs.Counts.{Ascends}
use Rattle.ranks.proofs.Segments.{lies_after, lies_at_last}
use Rattle.ranks.proofs.ranks.Ranks.place_of.Goals as goal

pub returns-then-not-is_before-clause-lies : goal.returns-then-not-is_before-clause-lies
returns-then-not-is_before-clause-lies c =
    let ascends = subst (λ r. Ascends r.segments) c.self.view_is c.self.invariant.0 in
    let len : length c.args.self.now.segments ≡ c.len-passed.result = omega (arith, ap (λ r. length r.segments) c.self.view_is, c.len-passed.ensures, c.self.inside.segments.ok.0) in
    lies_at_last c.args.key.now c.args.self.now.segments c.len-passed.result ascends len c.if-passed-gt0.true (sym c.is_before.ensures ∙ c.if-not-is_before.true)

pub returns-then-is_before-clause-lies : goal.returns-then-is_before-clause-lies
returns-then-is_before-clause-lies c =
    let ascends = subst (λ r. Ascends r.segments) c.self.view_is c.self.invariant.0 in
    let len : length c.args.self.now.segments ≡ c.len-passed.result = omega (arith, ap (λ r. length r.segments) c.self.view_is, c.len-passed.ensures, c.self.inside.segments.ok.0) in
    lies_after c.args.key.now c.args.self.now.segments c.loop-i.i ascends (omega (arith, len)) c.loop-i.invariant (λ _. sym c.is_before-in-loop-i.ensures ∙ c.if-is_before.true)
